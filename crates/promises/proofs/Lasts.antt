pub mod Lasting
pub mod NeverPastEnd
pub mod ReadBack
pub mod StoredCounts
pub mod TextsKept
