pub mod NearLaws
pub mod SortedLaws
pub mod Sums
