-- The printed form of an operand is one of the grammar.
use Rattle.std.proofs.Common.{◌≡◌, ◌≢◌, ℕ, ◌+◌, ◌^◌, ◌<◌, ◌≤◌, List, [], ◌∷◌, ◌++◌, refl, sym, ◌∙◌, subst, Bool, true, false, cond, Option, Some, None, arith, lit<, eqb}
use Rattle.std.specs.Prelude.{codes, nat_le, nat_lt, ◌-◌, ◌&&◌, ◌||◌}
use Rattle.std.specs.Fmt.{decimal}
use Rattle.std.specs.Char.{digit_value}
use Rattle.std.specs.Str.Parse.{IsNumeral}
use Rattle.std.proofs.lemmas.Bool.{eqb-true, ne_eqb, and_left, or_from, lt-leb, false≢true}
use Rattle.std.proofs.lemmas.Fmt.{decimal_is_IsNumeral_wide}
use Rattle.std.proofs.lemmas.List.{append-nil}
use Rattle.std.proofs.lemmas.Str.Parse.{digit_from_value}
use Rattle.x86_table.specs.declared.register.Register.{Register}
use Rattle.x86_table.specs.declared.operand.Index.{Index}
use Rattle.x86_table.specs.declared.operand.Scale.{Scale}
use Rattle.x86_table.specs.declared.operand.Scale.TheVariants as scale
use Rattle.x86_table.specs.declared.operand.Operand.{Operand}
use Rattle.x86_table.specs.declared.operand.Operand.TheVariants as operand
use Rattle.x86_table.specs.declared.table.Shape.{Shape}
use Rattle.x86_table.specs.declared.table.Shape.TheVariants as shape
use Rattle.x86_table.specs.Names.{IsName, begins_name}
use Rattle.x86_table.specs.Operand.{shape_of}
use Rattle.x86_lines.specs.Registers.{register_text, byte_text, half_text, index_register, factor}
use Rattle.x86_print.specs.Printed.{word_text, plus_text, index_text, back_text, operand_text}
use Rattle.x86_lines.specs.Grammar.{IsFront, Nothing, Plus, Label, LabelPlus, IsBack, Absent, Base, Scaled, BaseScaled, IsNoLoneName, IsOperand, Word, Byte, Half, Through, Number, Symbol, SymbolPlus, Bare, Memory}
use Rattle.x86_lines.proofs.Cuts.{Cuts, CutsAll, IsFresh, IsStop, cuts_all, cuts_nothing, cuts_after, cuts_then, cuts_stop, cuts_name, cuts_decimal}
use Rattle.x86_print.proofs.Rendered.{cuts_register, cuts_byte, cuts_half, count_is, word_cut}

-- marks
open_cut : CutsAll (codes "(") (codes "(" ∷ [])
open_cut = record { cut = λ rest. refl }

close_cut : Cuts (codes ")") (codes ")" ∷ [])
close_cut = record { cut = λ rest stop. refl }

close_fresh : IsFresh (codes ")")
close_fresh = record { fresh = λ rest stop. refl }

comma_cut : CutsAll (codes ",") (codes "," ∷ [])
comma_cut = record { cut = λ rest. refl }

comma_stop : IsStop (codes ",")
comma_stop = record { stops = λ rest. refl }

plus_cut : CutsAll (codes "+") (codes "+" ∷ [])
plus_cut = record { cut = λ rest. refl }

dollar_cut : CutsAll (codes "$") (codes "$" ∷ [])
dollar_cut = record { cut = λ rest. refl }

star_cut : CutsAll (codes "*") (codes "*" ∷ [])
star_cut = record { cut = λ rest. refl }

-- parentheses
factor_small : (s : Scale) → factor s < 10 ^ 64
factor_small scale.One = lit< tt
factor_small scale.Two = lit< tt
factor_small scale.Four = lit< tt
factor_small scale.Eight = lit< tt

index_cut : (i : Index) → Cuts (index_text i) (codes "," ∷ register_text (index_register i.register) ∷ codes "," ∷ decimal (factor i.scale) ∷ [])
index_cut i =
    let name = cuts_after (codes ",") (register_text (index_register i.register)) _ _ comma_cut (cuts_register (index_register i.register)) in
    cuts_after (codes "," ++ register_text (index_register i.register) ++ codes ",") (decimal (factor i.scale)) _ _ (cuts_stop (codes "," ++ register_text (index_register i.register)) (codes ",") _ _ name comma_stop comma_cut) (cuts_decimal (factor i.scale) (factor_small i.scale))

index_fresh : (i : Index) → IsFresh (index_text i)
index_fresh i = record { fresh = λ rest stop. refl }

pub record BackCut (base : Option Register) (index : Option Index) : Type 0 where
  pub ps : List (List ℕ)
  pub cuts : Cuts (back_text base index) ps
  pub back : IsBack ps base index
  pub fresh : IsFresh (back_text base index)

pub back_cut : (base : Option Register) (index : Option Index) → BackCut base index
back_cut None None = record { ps = []; cuts = cuts_all [] [] cuts_nothing; back = Absent; fresh = record { fresh = λ rest stop. stop } }
back_cut (Some r) None = record {
  ps = codes "(" ∷ register_text r ∷ codes ")" ∷ [];
  cuts = cuts_then (codes "(" ++ register_text r) (codes ")") (codes "(" ∷ register_text r ∷ []) (codes ")" ∷ []) (cuts_after (codes "(") (register_text r) _ _ open_cut (cuts_register r)) close_fresh close_cut;
  back = Base r;
  fresh = record { fresh = λ rest stop. refl };
}
back_cut None (Some i) = record {
  ps = codes "(" ∷ codes "," ∷ register_text (index_register i.register) ∷ codes "," ∷ decimal (factor i.scale) ∷ codes ")" ∷ [];
  cuts = cuts_then (codes "(" ++ index_text i) (codes ")") (codes "(" ∷ codes "," ∷ register_text (index_register i.register) ∷ codes "," ∷ decimal (factor i.scale) ∷ []) (codes ")" ∷ []) (cuts_after (codes "(") (index_text i) _ _ open_cut (index_cut i)) close_fresh close_cut;
  back = Scaled i.register (decimal (factor i.scale)) i.scale (count_is (factor i.scale) (factor_small i.scale));
  fresh = record { fresh = λ rest stop. refl };
}
back_cut (Some r) (Some i) = record {
  ps = codes "(" ∷ register_text r ∷ codes "," ∷ register_text (index_register i.register) ∷ codes "," ∷ decimal (factor i.scale) ∷ codes ")" ∷ [];
  cuts = cuts_then (codes "(" ++ register_text r ++ index_text i) (codes ")") (codes "(" ∷ register_text r ∷ codes "," ∷ register_text (index_register i.register) ∷ codes "," ∷ decimal (factor i.scale) ∷ []) (codes ")" ∷ []) (cuts_then (codes "(" ++ register_text r) (index_text i) _ _ (cuts_after (codes "(") (register_text r) _ _ open_cut (cuts_register r)) (index_fresh i) (index_cut i)) close_fresh close_cut;
  back = BaseScaled r i.register (decimal (factor i.scale)) i.scale (count_is (factor i.scale) (factor_small i.scale));
  fresh = record { fresh = λ rest stop. refl };
}

-- what may be printed: names of the text, words
abbrev pub IsNameOrNone : Option (List ℕ) → Type 0
IsNameOrNone None = Unit {0}
IsNameOrNone (Some name) = IsName name

-- a number is no name
digit_no_name : (c : ℕ) → digit_value c < 10 → begins_name c ≡ false
digit_no_name c h =
    let range = digit_from_value c h in
    let low : 48 ≤ c = range.0 in
    let high : c ≤ 57 = range.1 in
    let small : nat_le 65 c ≡ false = lt-leb 65 c (omega arith) in
    let large : nat_le 97 c ≡ false = lt-leb 97 c (omega arith) in
    or_from ((nat_le 65 c && nat_le c 90) || (nat_le 97 c && nat_le c 122) || eqb c 95) (eqb c 46)
    (or_from ((nat_le 65 c && nat_le c 90) || (nat_le 97 c && nat_le c 122)) (eqb c 95)
    (or_from (nat_le 65 c && nat_le c 90) (nat_le 97 c && nat_le c 122) (and_left (nat_le 65 c) (nat_le c 90) small) (and_left (nat_le 97 c) (nat_le c 122) large))
    (ne_eqb c 95 (λ e. omega arith)))
    (ne_eqb c 46 (λ e. omega arith))

digits_no_name : (ds : List ℕ) → IsNumeral 10 ds → IsName ds → ⊥
digits_no_name [] n h = h
digits_no_name (c ∷ cs) n h = false≢true (sym (digit_no_name c n.1.0) ∙ h.0)

word_no_name_at : (h n : ℕ) (small : Bool) → h + h < 10 ^ 64 → n < h + h → IsName (cond small (decimal n) (45 ∷ decimal (h + h - n))) → ⊥
word_no_name_at h n true low high name = digits_no_name (decimal n) (decimal_is_IsNumeral_wide n (omega arith)).0 name
word_no_name_at h n false low high name = false≢true name.0

pub word_no_name : (n : ℕ) → n < 4294967296 → IsName (word_text n) → ⊥
word_no_name n high name = word_no_name_at 2147483648 n (nat_lt n 2147483648) (lit< tt) high name

-- a label with what is added to it
pub record FrontCut (label : Option (List ℕ)) (n : ℕ) (text : List ℕ) : Type 0 where
  pub ps : List (List ℕ)
  pub cuts : Cuts text ps
  pub front : IsFront ps label n

plus_at : (name : List ℕ) (n : ℕ) (zero : Bool) → eqb n 0 ≡ zero → IsName name → n < 4294967296 → FrontCut (Some name) n (name ++ cond zero [] (43 ∷ word_text n))
plus_at name n true e named small = record {
  ps = name ∷ [];
  cuts = subst (λ (t : List ℕ). Cuts t (name ∷ [])) (sym (append-nil name)) (cuts_name name named);
  front = subst (λ (k : ℕ). IsFront (name ∷ []) (Some name) k) (sym (eqb-true n 0 e)) (Label name named);
}
plus_at name n false e named small =
    let number = word_cut n small in
    record {
      ps = name ∷ codes "+" ∷ word_text n ∷ [];
      cuts = cuts_then name (codes "+" ++ word_text n) (name ∷ []) (codes "+" ∷ word_text n ∷ []) (cuts_name name named) (record { fresh = λ rest stop. refl }) (cuts_after (codes "+") (word_text n) _ _ plus_cut number.cuts);
      front = LabelPlus name (word_text n) n named number.bits;
    }

pub plus_cut_of : (name : List ℕ) (n : ℕ) → IsName name → n < 4294967296 → FrontCut (Some name) n (name ++ plus_text n)
plus_cut_of name n named small = plus_at name n (eqb n 0) refl named small

number_at : (n : ℕ) (zero : Bool) → eqb n 0 ≡ zero → n < 4294967296 → FrontCut None n (cond zero [] (word_text n))
number_at n true e small = record { ps = []; cuts = cuts_all [] [] cuts_nothing; front = subst (λ (k : ℕ). IsFront [] None k) (sym (eqb-true n 0 e)) Nothing }
number_at n false e small = let number = word_cut n small in record { ps = word_text n ∷ []; cuts = number.cuts; front = Plus (word_text n) n number.bits }

number_alone : (n : ℕ) → n < 4294967296 → FrontCut None n (word_text n)
number_alone n small = let number = word_cut n small in record { ps = word_text n ∷ []; cuts = number.cuts; front = Plus (word_text n) n number.bits }

-- an operand
pub record OperandCut (o : Operand) : Type 0 where
  pub ps : List (List ℕ)
  pub cuts : Cuts (operand_text o) ps
  pub operand : IsOperand ps o (shape_of o)

-- parentheses make more than one piece
pub front_some : (ps qs : List (List ℕ)) (p : List ℕ) → ps ++ p ∷ qs ≢ []
front_some [] qs p = λ e. cc
front_some (x ∷ ps) qs p = λ e. cc

pub front_long : (ps qs : List (List ℕ)) (p q : List ℕ) → IsNoLoneName (ps ++ p ∷ q ∷ qs)
front_long [] qs p q = λ name named e. cc
front_long (x ∷ []) qs p q = λ name named e. cc
front_long (x ∷ y ∷ ps) qs p q = λ name named e. cc

pub back_long : (ps qs : List (List ℕ)) (base : Option Register) (index : Option Index) → IsBack qs base index → (base ≡ None → index ≡ None → ⊥) → (ps ++ qs ≢ []) × IsNoLoneName (ps ++ qs)
back_long ps qs base index Absent some = absurd (some refl refl)
back_long ps qs base index (Base r) some = (front_some ps _ _, front_long ps _ _ _)
back_long ps qs base index (Scaled i p s c) some = (front_some ps _ _, front_long ps _ _ _)
back_long ps qs base index (BaseScaled r i p s c) some = (front_some ps _ _, front_long ps _ _ _)

-- a memory operand with parentheses
with_back : (label : Option (List ℕ)) (n : ℕ) (base : Option Register) (index : Option Index) (text : List ℕ) → FrontCut label n text → (base ≡ None → index ≡ None → ⊥) → (ps : List (List ℕ)) × Cuts (text ++ back_text base index) ps × IsOperand ps (operand.Memory (record { label = label; displacement = n; base = base; index = index })) shape.Memory
with_back label n base index text front some =
    let back = back_cut base index in
    let long = back_long front.ps back.ps base index back.back some in
    (front.ps ++ back.ps, cuts_then text (back_text base index) front.ps back.ps front.cuts back.fresh back.cuts, Memory front.ps back.ps label n base index front.front back.back long.0 long.1)

-- an operand of this shape with this text
pub record OperandIs (o : Operand) (s : Shape) (text : List ℕ) : Type 0 where
  pub ps : List (List ℕ)
  pub cuts : Cuts text ps
  pub operand : IsOperand ps o s

abbrev memory : Option (List ℕ) → ℕ → Option Register → Option Index → Operand
memory label n base index = operand.Memory (record { label = label; displacement = n; base = base; index = index })

with_end : (t : List ℕ) (ps : List (List ℕ)) → Cuts t ps → Cuts (t ++ []) ps
with_end t ps h = subst (λ (x : List ℕ). Cuts x ps) (sym (append-nil t)) h

-- a label alone, or with what is added to it
label_at : (name : List ℕ) (n : ℕ) (zero : Bool) → eqb n 0 ≡ zero → IsName name → n < 4294967296 → OperandIs (memory (Some name) n None None) (cond ((zero && true) && true) shape.Bare shape.Memory) ((name ++ cond zero [] (43 ∷ word_text n)) ++ [])
label_at name n true e named small =
    let bare : OperandIs (memory (Some name) 0 None None) shape.Bare ((name ++ []) ++ []) = record { ps = name ∷ []; cuts = with_end (name ++ []) (name ∷ []) (with_end name (name ∷ []) (cuts_name name named)); operand = Bare name named } in
    subst (λ (k : ℕ). OperandIs (memory (Some name) k None None) shape.Bare ((name ++ []) ++ [])) (sym (eqb-true n 0 e)) bare
label_at name n false e named small =
    let front = plus_at name n false e named small in
    record {
      ps = name ∷ codes "+" ∷ word_text n ∷ [];
      cuts = with_end (name ++ 43 ∷ word_text n) (name ∷ codes "+" ∷ word_text n ∷ []) (cuts_then name (codes "+" ++ word_text n) (name ∷ []) (codes "+" ∷ word_text n ∷ []) (cuts_name name named) (record { fresh = λ rest stop. refl }) (cuts_after (codes "+") (word_text n) _ _ plus_cut (word_cut n small).cuts));
      operand = Memory (name ∷ codes "+" ∷ word_text n ∷ []) [] (Some name) n None None (LabelPlus name (word_text n) n named (word_cut n small).bits) Absent (λ same. cc) (λ other is same. cc);
    }

-- a number alone
number_is : (n : ℕ) → n < 4294967296 → OperandIs (memory None n None None) shape.Memory (word_text n ++ [])
number_is n small =
    let number = word_cut n small in
    record {
      ps = word_text n ∷ [];
      cuts = with_end (word_text n) (word_text n ∷ []) number.cuts;
      operand = Memory (word_text n ∷ []) [] None n None None (Plus (word_text n) n number.bits) Absent (λ same. cc) (λ name named same. let eq : name ≡ word_text n = cc in word_no_name n small (subst IsName eq named));
    }

-- no lone name where there are parentheses
not_bare_base : (z j : Bool) → shape.Memory ≡ cond ((z && false) && j) shape.Bare shape.Memory
not_bare_base true j = refl
not_bare_base false j = refl

not_bare_index : (z : Bool) → shape.Memory ≡ cond ((z && true) && false) shape.Bare shape.Memory
not_bare_index true = refl
not_bare_index false = refl

behind : (label : Option (List ℕ)) (n : ℕ) (base : Option Register) (index : Option Index) (text : List ℕ) (s : Shape) → shape.Memory ≡ s → FrontCut label n text → (base ≡ None → index ≡ None → ⊥) → OperandIs (memory label n base index) s (text ++ back_text base index)
behind label n base index text s same front some =
    let all = with_back label n base index text front some in
    record { ps = all.0; cuts = all.1; operand = subst (λ (x : Shape). IsOperand all.0 (memory label n base index) x) same all.2 }

memory_cut : (label : Option (List ℕ)) (n : ℕ) (base : Option Register) (index : Option Index) → IsNameOrNone label → n < 4294967296 → OperandIs (memory label n base index) (shape_of (memory label n base index)) (operand_text (memory label n base index))
memory_cut None n None None named small = number_is n small
memory_cut None n (Some r) None named small = behind None n (Some r) None _ shape.Memory refl (number_at n (eqb n 0) refl small) (λ e f. cc)
memory_cut None n None (Some i) named small = behind None n None (Some i) _ shape.Memory refl (number_at n (eqb n 0) refl small) (λ e f. cc)
memory_cut None n (Some r) (Some i) named small = behind None n (Some r) (Some i) _ shape.Memory refl (number_at n (eqb n 0) refl small) (λ e f. cc)
memory_cut (Some name) n None None named small = label_at name n (eqb n 0) refl named small
memory_cut (Some name) n (Some r) None named small = behind (Some name) n (Some r) None _ _ (not_bare_base (eqb n 0) true) (plus_cut_of name n named small) (λ e f. cc)
memory_cut (Some name) n None (Some i) named small = behind (Some name) n None (Some i) _ _ (not_bare_index (eqb n 0)) (plus_cut_of name n named small) (λ e f. cc)
memory_cut (Some name) n (Some r) (Some i) named small = behind (Some name) n (Some r) (Some i) _ _ (not_bare_base (eqb n 0) false) (plus_cut_of name n named small) (λ e f. cc)

-- a label as a number
abbrev symbol : List ℕ → ℕ → Operand
symbol name n = operand.Symbol (record { name = name; plus = n })

symbol_at : (name : List ℕ) (n : ℕ) (zero : Bool) → eqb n 0 ≡ zero → IsName name → n < 4294967296 → OperandIs (symbol name n) shape.Symbol (36 ∷ name ++ cond zero [] (43 ∷ word_text n))
symbol_at name n true e named small =
    let plain : OperandIs (symbol name 0) shape.Symbol (36 ∷ name ++ []) = record { ps = codes "$" ∷ name ∷ []; cuts = cuts_after (codes "$") (name ++ []) (codes "$" ∷ []) (name ∷ []) dollar_cut (with_end name (name ∷ []) (cuts_name name named)); operand = Symbol name named } in
    subst (λ (k : ℕ). OperandIs (symbol name k) shape.Symbol (36 ∷ name ++ [])) (sym (eqb-true n 0 e)) plain
symbol_at name n false e named small = record {
  ps = codes "$" ∷ name ∷ codes "+" ∷ word_text n ∷ [];
  cuts = cuts_after (codes "$") (name ++ 43 ∷ word_text n) (codes "$" ∷ []) (name ∷ codes "+" ∷ word_text n ∷ []) dollar_cut (cuts_then name (codes "+" ++ word_text n) (name ∷ []) (codes "+" ∷ word_text n ∷ []) (cuts_name name named) (record { fresh = λ rest stop. refl }) (cuts_after (codes "+") (word_text n) _ _ plus_cut (word_cut n small).cuts));
  operand = SymbolPlus name (word_text n) n named (word_cut n small).bits;
}

-- what may be printed, and any operand that is there
abbrev pub IsPrintable : Operand → Type 0
IsPrintable (operand.Number n) = n < 4294967296
IsPrintable (operand.Symbol s) = IsName s.name × (s.plus < 4294967296)
IsPrintable (operand.Memory m) = IsNameOrNone m.label × (m.displacement < 4294967296)
IsPrintable _ = Unit {0}

abbrev pub is_absent : Operand → Bool
is_absent operand.Absent = true
is_absent _ = false

pub operand_cut : (o : Operand) → IsPrintable o → is_absent o ≡ false → OperandIs o (shape_of o) (operand_text o)
operand_cut operand.Absent p h = absurd (false≢true (sym h))
operand_cut (operand.Word r) p h = record { ps = register_text r ∷ []; cuts = cuts_register r; operand = Word r }
operand_cut (operand.Byte r) p h = record { ps = byte_text r ∷ []; cuts = cuts_byte r; operand = Byte r }
operand_cut (operand.Half r) p h = record { ps = half_text r ∷ []; cuts = cuts_half r; operand = Half r }
operand_cut (operand.Number n) p h = record { ps = codes "$" ∷ word_text n ∷ []; cuts = cuts_after (codes "$") (word_text n) (codes "$" ∷ []) (word_text n ∷ []) dollar_cut (word_cut n p).cuts; operand = Number (word_text n) n (word_cut n p).bits }
operand_cut (operand.Symbol s) p h = symbol_at s.name s.plus (eqb s.plus 0) refl p.0 p.1
operand_cut (operand.Memory m) p h = memory_cut m.label m.displacement m.base m.index p.0 p.1
operand_cut (operand.Through r) p h = record { ps = codes "*" ∷ register_text r ∷ []; cuts = cuts_after (codes "*") (register_text r) (codes "*" ∷ []) (register_text r ∷ []) star_cut (cuts_register r); operand = Through r }
