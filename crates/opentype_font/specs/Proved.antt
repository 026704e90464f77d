-- What the laws of `Lookups` rest on: lemmas, and no definition that a contract cites.
pub mod LookupLaws
