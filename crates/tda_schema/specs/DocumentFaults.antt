-- What a document's fault is as a schema's.
use Rattle.std.specs.Prelude.{Result, Ok, Err}
use Rattle.tda_document.specs.declared.fault.DocumentFault.{DocumentFault}
use Rattle.tda_document.specs.declared.fault.DocumentFault.TheVariants as document
use Rattle.tda_schema.specs.declared.fault.SchemaFault.{SchemaFault}
use Rattle.tda_schema.specs.declared.fault.SchemaFault.TheVariants as schema

abbrev pub fault_of : DocumentFault → SchemaFault
fault_of document.UnknownKey = schema.UnknownKey
fault_of document.MissingKey = schema.MissingKey
fault_of document.WrongType = schema.WrongType
fault_of document.NoMemory = schema.NoMemory

-- the answer, with its fault as a schema's
abbrev pub retold : {A : Type 0} → Result A DocumentFault → Result A SchemaFault
retold (Ok x) = Ok x
retold (Err fault) = Err (fault_of fault)
