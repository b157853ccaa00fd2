pub mod RecordsText
pub mod FacilitiesText
pub mod DemoEntries
pub mod DemoRecords
pub mod Laws
pub mod Inputs
