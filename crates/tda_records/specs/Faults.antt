-- A row of another width as a fault of the records.
use Rattle.tda_io.specs.declared.rows.RowFault.{RowFault}
use Rattle.tda_io.specs.declared.rows.RowFault.TheVariants as row_fault
use Rattle.tda_records.specs.declared.fault.RecFault.{RecFault}
use Rattle.tda_records.specs.declared.fault.RecFault.TheVariants as fault

abbrev pub fault_of : RowFault → RecFault
fault_of (row_fault.BadWidth row) = fault.BadRow row
fault_of row_fault.NoMemory = fault.NoMemory
