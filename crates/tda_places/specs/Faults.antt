-- A row of another width as a fault of the measurements.
use Rattle.tda_io.specs.declared.rows.RowFault.{RowFault}
use Rattle.tda_io.specs.declared.rows.RowFault.TheVariants as row_fault
use Rattle.tda_places.specs.declared.fault.MeaFault.{MeaFault}
use Rattle.tda_places.specs.declared.fault.MeaFault.TheVariants as fault

abbrev pub fault_of : RowFault → MeaFault
fault_of (row_fault.BadWidth row) = fault.BadRow row
fault_of row_fault.NoMemory = fault.NoMemory
