-- What the laws of `Reorder` rest on: lemmas, and no definition that a contract cites.
pub mod KhmerCases
pub mod KhmerLaws
pub mod KhmerMasks
pub mod KhmerMoves
