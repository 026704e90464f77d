-- What the laws of `Reorder` rest on: lemmas, and no definition that a contract cites.
pub mod MyanmarLaws
pub mod MyanmarPlaces
pub mod MyanmarPlain
