-- Laws of picked elements: those of the crate that defines `pick`.
pub use Rattle.shapers_buffer.proofs.Picks.{AllZip-pick, get_or-pick, length-pick, nothing_picked, pick-all, pick-append, pick-map, pick-pick, pick-range, pick-within, some_element, within_at, within_picked, within_range}
