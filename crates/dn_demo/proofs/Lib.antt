pub mod Text
pub mod Fronts
pub mod OneReading
pub mod ReadBack
pub mod RecordedAnew
mod Stepping
mod RowsKept
mod FeedKept
mod FeedRows
pub mod Listing
