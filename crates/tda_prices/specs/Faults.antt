-- A row of another width as a fault of prices, and of tables.
use Rattle.tda_io.specs.declared.rows.RowFault.{RowFault}
use Rattle.tda_io.specs.declared.rows.RowFault.TheVariants as row_fault
use Rattle.tda_prices.specs.declared.fault.PriFault.{PriFault}
use Rattle.tda_prices.specs.declared.fault.PriFault.TheVariants as prices_fault
use Rattle.tda_prices.specs.declared.fault.TabFault.{TabFault}
use Rattle.tda_prices.specs.declared.fault.TabFault.TheVariants as tables_fault

abbrev pub of_prices : RowFault → PriFault
of_prices (row_fault.BadWidth row) = prices_fault.BadRow row
of_prices row_fault.NoMemory = prices_fault.NoMemory

abbrev pub of_tables : RowFault → TabFault
of_tables (row_fault.BadWidth row) = tables_fault.BadRow row
of_tables row_fault.NoMemory = tables_fault.NoMemory
