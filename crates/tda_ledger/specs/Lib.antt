pub mod Ledger
pub mod LedgerText
