pub mod Firsts
pub mod Walks
pub mod Unbegun
pub mod Calls
pub mod Following
pub mod Preserved
pub mod Keeping
pub mod Kerning
pub mod Marks
pub mod MarkKeeping
mod MarkRows
pub mod KernKeeping
mod KernRows
pub mod KernLefts
pub mod KernQuiet
mod KernLeftRows
mod TypeRows
pub mod Inside
pub mod Turning
mod CursiveRows
mod ContextRows
mod LookedRows
mod Paired
pub mod Passing
