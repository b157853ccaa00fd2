pub mod Fields
pub mod Entries
pub mod KindTable
pub mod Facilities
pub mod Totals
pub mod Known
