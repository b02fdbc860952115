mod Answering
pub mod CameThrough
pub mod Gets
pub mod Handed
mod Live
pub mod LogRecords
mod MapPlaces
mod Records
