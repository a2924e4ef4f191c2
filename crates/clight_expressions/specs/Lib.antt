pub mod SuffixOf
