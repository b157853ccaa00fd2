-- What a document is as a written schema.
use Rattle.std.specs.Prelude.{not, Result}
use Rattle.toml.specs.Data.{Members}
use Rattle.tda_io.specs.Due.{◌>>=◌, fault_if}
use Rattle.tda_document.specs.declared.fault.DocumentFault.{DocumentFault}
use Rattle.tda_document.specs.declared.fault.DocumentFault.TheVariants.{UnknownKey, MissingKey}
use Rattle.tda_document.specs.declared.keys.KeyTest.TheVariants.{Known, Complete}
use Rattle.tda_document.specs.Raw.{RawSchema}
use Rattle.tda_document.specs.Keys.{document_passes}
use Rattle.tda_document.specs.Typed.{typed}

-- a document as a written schema: its keys, and the types of its values
abbrev pub written : Members → Result RawSchema DocumentFault
written document = do
  _ ← fault_if (not (document_passes Known document)) UnknownKey
  _ ← fault_if (not (document_passes Complete document)) MissingKey
  typed document
