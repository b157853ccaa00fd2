pub mod RowNumbers
pub mod TableLemmas
pub mod UnitLemmas
pub mod EntryLemmas
pub mod TotalRows
pub mod FacilityRows
pub mod StatePlaces
pub mod StateTotals
pub mod UnitLists
pub mod FitOrder
pub mod RangeLemmas
pub mod Needs
pub mod Raising
pub mod Existence
pub mod Appends
pub mod WrittenTotals
pub mod TotalsLength
mod Worked
