-- Whether bytes are a document.
use Rattle.std.proofs.Common.{◌≡◌, ℕ, Bool, true, false, List, Some, None, refl, ap, ◌∙◌, cond, IsTrue}
use Rattle.std.specs.Str.{IsUtf8, is_utf8}
use Rattle.std.proofs.lemmas.Str.{is_utf8-from_IsUtf8, IsUtf8-from_is_utf8}
use Rattle.toml.specs.Data.{Members}
use Rattle.toml.specs.Parse.{parse_document}
use Rattle.tda_schema.specs.Read.{document_of}

pub document_is : (bytes : List ℕ) {ms : Members} → IsUtf8 bytes → parse_document bytes ≡ Some ms → document_of bytes ≡ Some ms
document_is bytes text parsed = (ap (λ b. cond b (parse_document bytes) None) (is_utf8-from_IsUtf8 bytes text)) ∙ parsed

pub no_document : (bytes : List ℕ) → (IsUtf8 bytes → parse_document bytes ≡ None) → document_of bytes ≡ None
no_document bytes refused = by (is_utf8 bytes) refl
  where
    by : (b : Bool) → is_utf8 bytes ≡ b → cond b (parse_document bytes) None ≡ None
    by true e = refused (IsUtf8-from_is_utf8 bytes e)
    by false e = refl

pub not_true : (b : Bool) → IsTrue b → b ≡ false → ⊥
not_true true h e = cc
not_true false h e = cc
