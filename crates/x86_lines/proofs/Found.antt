-- The row that is found has the mnemonic, and takes the operands.
use Rattle.std.proofs.Common.{◌≡◌, ℕ, ◌<◌, List, length, get_or, Some, true}
use Rattle.std.specs.Prelude.{position}
use Rattle.std.proofs.lemmas.Bool.{and_parts}
use Rattle.std.proofs.lemmas.List.Quantifiers.{position-Some}
use Rattle.std.proofs.lemmas.Slice.Eq.{bytes_eq-Decides}
use Rattle.x86_table.specs.declared.mnemonic.Mnemonic.TheVariants as mnemonic
use Rattle.x86_table.specs.declared.table.Shape.TheVariants as shape
use Rattle.x86_table.specs.declared.table.Form.{Form}
use Rattle.x86_table.specs.declared.table.Pattern.{Pattern}
use Rattle.x86_table.specs.Mnemonic.{text_of}
use Rattle.x86_table.specs.Table.{is_form_of, takes_pattern}

-- a form that stands for none
pub any_form : Form
any_form = record { mnemonic = mnemonic.Movl; pattern = record { first = shape.Number; second = shape.Word }; row = 1 }

pub found_fits : (table : List Form) (m : List ℕ) (p : Pattern) (n : ℕ) (d : Form) → position (is_form_of m p) table ≡ Some n → (n < length table) × (is_form_of m p (get_or table n d) ≡ true)
found_fits table m p n d e = let h = position-Some (is_form_of m p) table n d e in (h.0, h.1)

pub found_mnemonic : (table : List Form) (m : List ℕ) (p : Pattern) (n : ℕ) (d : Form) → position (is_form_of m p) table ≡ Some n → text_of (get_or table n d).mnemonic ≡ m
found_mnemonic table m p n d e =
    (bytes_eq-Decides (text_of (get_or table n d).mnemonic) m).0 (and_parts _ (takes_pattern (get_or table n d).pattern p) (found_fits table m p n d e).1).0
