-- What the code takes from the front of a list of pieces is of the grammar.
use Rattle.std.proofs.Common.{◌≡◌, ℕ, List, [], ◌∷◌, ◌++◌, refl, sym, ◌∙◌, ap, subst, Bool, true, false, cond, Option, Some, None, lit≤, append_assoc}
use Rattle.std.specs.Prelude.{codes}
use Rattle.std.proofs.lemmas.Bool.{false≢true}
use Rattle.std.proofs.lemmas.List.{append-nil}
use Rattle.x86_table.specs.declared.register.Register.{Register}
use Rattle.x86_table.specs.declared.register.ByteRegister.{ByteRegister}
use Rattle.x86_table.specs.declared.register.HalfRegister.{HalfRegister}
use Rattle.x86_table.specs.declared.register.IndexRegister.{IndexRegister}
use Rattle.x86_table.specs.declared.operand.Index.{Index}
use Rattle.x86_table.specs.declared.operand.Scale.{Scale}
use Rattle.x86_table.specs.declared.operand.Operand.{Operand}
use Rattle.x86_table.specs.declared.operand.Operand.TheVariants as operand
use Rattle.x86_table.specs.declared.operand.Operands.{Operands}
use Rattle.x86_table.specs.declared.table.Shape.{Shape}
use Rattle.x86_table.specs.declared.table.Shape.TheVariants as shape
use Rattle.x86_table.specs.declared.table.Pattern.{Pattern}
use Rattle.x86_table.specs.Names.{IsName}
use Rattle.x86_table.specs.Operand.{shape_of}
use Rattle.x86_lines.specs.Numbers.{IsWord, IsCount}
use Rattle.x86_lines.specs.Registers.{register_text, byte_text, half_text, index_register, factor}
use Rattle.x86_lines.specs.Reading.{is_name}
use Rattle.x86_lines.specs.Finding.{register_in, byte_in, half_in, index_in, bits_in, count_in, scale_from, is_mark}
use Rattle.x86_lines.specs.Taking.{Pieces, behind, with_scale, scaled, behind_index, index_from, index_of, indexed, behind_base, base_from, inside, closing, closed_from, closed, back_from, back, word_from, word_of, plus_from, plus, shape_behind, named_from, memory_from, named, numbered, memory, symbol_from, number_from, immediate, through_from, through, plain_from, plain_at, take_operand, two_of, both_of, second_end, second_from, behind_comma, behind_first, first_from, operands_in}
use Rattle.x86_lines.specs.Grammar.{Nothing, Plus, Label, LabelPlus, IsBack, Absent, Base, Scaled, BaseScaled, IsNoLoneName, IsOperand, Word, Byte, Half, Through, Number, Symbol, SymbolPlus, Bare, Memory, AreOperands, NoOperand, OneOperand, TwoOperands}
use Rattle.x86_lines.proofs.BitsFound.{bits_sound}
use Rattle.x86_lines.proofs.Marks.{mark_sound, register_sound, byte_sound, half_sound, index_sound, scale_sound, name_some, name_sound, bits_no_name}

-- nothing comes of None
nothing : {X Y : Type 0} (x : X) → None ≡ Some x → Y
nothing x e = absurd cc

same : {X : Type 0} (x y : X) → Some x ≡ Some y → x ≡ y
same x y e = cc

-- marks
behind_at : (mark : ℕ) (w : List ℕ) (ps qs : Pieces) (b : Bool) → is_mark mark w ≡ b → cond b (Some ps) None ≡ Some qs → w ∷ ps ≡ (mark ∷ []) ∷ qs
behind_at mark w ps qs true e h = let p = mark_sound mark w e in let q : ps ≡ qs = same ps qs h in cc
behind_at mark w ps qs false e h = nothing qs h

behind_sound : (mark : ℕ) (ps qs : Pieces) → behind mark ps ≡ Some qs → ps ≡ (mark ∷ []) ∷ qs
behind_sound mark [] qs h = nothing qs h
behind_sound mark (w ∷ ps) qs h = behind_at mark w ps qs (is_mark mark w) refl h

-- an index
record IndexAt (ps : Pieces) (t : Index × Pieces) : Type 0 where
  p : List ℕ
  count : IsCount p (factor t.0.scale)
  is : ps ≡ register_text (index_register t.0.register) ∷ codes "," ∷ p ∷ t.1

record ScaledAt (r : IndexRegister) (ps : Pieces) (t : Index × Pieces) : Type 0 where
  p : List ℕ
  count : IsCount p (factor t.0.scale)
  register : t.0.register ≡ r
  is : ps ≡ p ∷ t.1

with_scale_sound : (r : IndexRegister) (w : List ℕ) (ps : Pieces) (t : Index × Pieces) (o : Option Scale) → scale_from (count_in w) ≡ o → with_scale r o ps ≡ Some t → ScaledAt r (w ∷ ps) t
with_scale_sound r w ps t None e h = nothing t h
with_scale_sound r w ps t (Some s) e h =
    let found : ScaledAt r (w ∷ ps) (record { register = r; scale = s }, ps) = record { p = w; count = scale_sound w s e; register = refl; is = refl } in
    subst (ScaledAt r (w ∷ ps)) (same _ t h) found

scaled_sound : (r : IndexRegister) (ps : Pieces) (t : Index × Pieces) → scaled r ps ≡ Some t → ScaledAt r ps t
scaled_sound r [] t h = nothing t h
scaled_sound r (w ∷ ps) t h = with_scale_sound r w ps t (scale_from (count_in w)) refl h

behind_index_sound : (r : IndexRegister) (w : List ℕ) (ps : Pieces) (t : Index × Pieces) (o : Option Pieces) → index_in w ≡ Some r → behind 44 ps ≡ o → behind_index r o ≡ Some t → IndexAt (w ∷ ps) t
behind_index_sound r w ps t None i e h = nothing t h
behind_index_sound r w ps t (Some qs) i e h =
    let s = scaled_sound r qs t h in
    let name : w ≡ register_text (index_register t.0.register) = index_sound w r i ∙ ap (λ (x : IndexRegister). register_text (index_register x)) (sym s.register) in
    let comma : ps ≡ codes "," ∷ qs = behind_sound 44 ps qs e in
    let rest : qs ≡ s.p ∷ t.1 = s.is in
    record { p = s.p; count = s.count; is = cc }

index_from_sound : (w : List ℕ) (ps : Pieces) (t : Index × Pieces) (o : Option IndexRegister) → index_in w ≡ o → index_from o ps ≡ Some t → IndexAt (w ∷ ps) t
index_from_sound w ps t None e h = nothing t h
index_from_sound w ps t (Some r) e h = behind_index_sound r w ps t (behind 44 ps) e refl h

index_sound_of : (ps : Pieces) (t : Index × Pieces) → index_of ps ≡ Some t → IndexAt ps t
index_sound_of [] t h = nothing t h
index_sound_of (w ∷ ps) t h = index_from_sound w ps t (index_in w) refl h

-- parentheses
abbrev Back : Type 0
Back = Option Register × Option Index × Pieces

record InsideAt (ps : Pieces) (t : Back) : Type 0 where
  mid : Pieces
  back : IsBack (codes "(" ∷ mid ++ codes ")" ∷ []) t.0 t.1
  is : ps ≡ mid ++ t.2

indexed_none_sound : (ps : Pieces) (t : Back) (o : Option (Index × Pieces)) → index_of ps ≡ o → indexed None o ≡ Some t → InsideAt (codes "," ∷ ps) t
indexed_none_sound ps t None e h = nothing t h
indexed_none_sound ps t (Some u) e h =
    let i = index_sound_of ps u e in
    let found : InsideAt (codes "," ∷ ps) (None, Some u.0, u.1) = record { mid = codes "," ∷ register_text (index_register u.0.register) ∷ codes "," ∷ i.p ∷ []; back = Scaled u.0.register i.p u.0.scale i.count; is = ap (λ (x : Pieces). codes "," ∷ x) i.is } in
    subst (InsideAt (codes "," ∷ ps)) (same _ t h) found

indexed_base_sound : (r : Register) (ps : Pieces) (t : Back) (o : Option (Index × Pieces)) → index_of ps ≡ o → indexed (Some r) o ≡ Some t → InsideAt (register_text r ∷ codes "," ∷ ps) t
indexed_base_sound r ps t None e h = nothing t h
indexed_base_sound r ps t (Some u) e h =
    let i = index_sound_of ps u e in
    let found : InsideAt (register_text r ∷ codes "," ∷ ps) (Some r, Some u.0, u.1) = record { mid = register_text r ∷ codes "," ∷ register_text (index_register u.0.register) ∷ codes "," ∷ i.p ∷ []; back = BaseScaled r u.0.register i.p u.0.scale i.count; is = ap (λ (x : Pieces). register_text r ∷ codes "," ∷ x) i.is } in
    subst (InsideAt (register_text r ∷ codes "," ∷ ps)) (same _ t h) found

behind_base_sound : (r : Register) (ps : Pieces) (t : Back) (o : Option Pieces) → behind 44 ps ≡ o → behind_base r o ps ≡ Some t → InsideAt (register_text r ∷ ps) t
behind_base_sound r ps t None e h =
    let found : InsideAt (register_text r ∷ ps) (Some r, None, ps) = record { mid = register_text r ∷ []; back = Base r; is = refl } in
    subst (InsideAt (register_text r ∷ ps)) (same _ t h) found
behind_base_sound r ps t (Some qs) e h = subst (λ (x : Pieces). InsideAt (register_text r ∷ x) t) (sym (behind_sound 44 ps qs e)) (indexed_base_sound r qs t (index_of qs) refl h)

base_from_sound : (w : List ℕ) (ps : Pieces) (t : Back) (o : Option Register) → register_in w ≡ o → base_from o ps ≡ Some t → InsideAt (w ∷ ps) t
base_from_sound w ps t None e h = nothing t h
base_from_sound w ps t (Some r) e h = subst (λ (x : List ℕ). InsideAt (x ∷ ps) t) (sym (register_sound w r e)) (behind_base_sound r ps t (behind 44 ps) refl h)

inside_at_sound : (w : List ℕ) (ps : Pieces) (t : Back) (b : Bool) → is_mark 44 w ≡ b → cond b (indexed None (index_of ps)) (base_from (register_in w) ps) ≡ Some t → InsideAt (w ∷ ps) t
inside_at_sound w ps t true e h = subst (λ (x : List ℕ). InsideAt (x ∷ ps) t) (sym (mark_sound 44 w e)) (indexed_none_sound ps t (index_of ps) refl h)
inside_at_sound w ps t false e h = base_from_sound w ps t (register_in w) refl h

inside_sound : (ps : Pieces) (t : Back) → inside ps ≡ Some t → InsideAt ps t
inside_sound [] t h = nothing t h
inside_sound (w ∷ ps) t h = inside_at_sound w ps t (is_mark 44 w) refl h

-- a list of pieces begins with parentheses
pub record BackAt (ps : Pieces) (t : Back) : Type 0 where
  pub front : Pieces
  pub back : IsBack front t.0 t.1
  pub is : ps ≡ front ++ t.2

record ClosedAt (ps : Pieces) (t : Back) : Type 0 where
  mid : Pieces
  back : IsBack (codes "(" ∷ mid) t.0 t.1
  is : ps ≡ mid ++ t.2

closing_sound : (ps : Pieces) (u t : Back) (o : Option Pieces) → InsideAt ps u → behind 41 u.2 ≡ o → closing u.0 u.1 o ≡ Some t → ClosedAt ps t
closing_sound ps u t None i e h = nothing t h
closing_sound ps u t (Some qs) i e h =
    let found : ClosedAt ps (u.0, u.1, qs) = record { mid = i.mid ++ codes ")" ∷ []; back = i.back; is = i.is ∙ ap (λ (x : Pieces). i.mid ++ x) (behind_sound 41 u.2 qs e) ∙ sym (append_assoc i.mid (codes ")" ∷ []) qs) } in
    subst (ClosedAt ps) (same _ t h) found

closed_from_sound : (ps : Pieces) (t : Back) (o : Option Back) → inside ps ≡ o → closed_from o ≡ Some t → ClosedAt ps t
closed_from_sound ps t None e h = nothing t h
closed_from_sound ps t (Some u) e h = closing_sound ps u t (behind 41 u.2) (inside_sound ps u e) refl h

closed_sound : (ps : Pieces) (t : Back) → closed ps ≡ Some t → ClosedAt ps t
closed_sound ps t h = closed_from_sound ps t (inside ps) refl h

back_from_sound : (ps : Pieces) (t : Back) (o : Option Pieces) → behind 40 ps ≡ o → back_from o ps ≡ Some t → BackAt ps t
back_from_sound ps t None e h =
    let found : BackAt ps (None, None, ps) = record { front = []; back = Absent; is = refl } in
    subst (BackAt ps) (same _ t h) found
back_from_sound ps t (Some qs) e h =
    let c = closed_sound qs t h in
    record { front = codes "(" ∷ c.mid; back = c.back; is = behind_sound 40 ps qs e ∙ ap (λ (x : Pieces). codes "(" ∷ x) c.is }

pub back_sound : (ps : Pieces) (t : Back) → back ps ≡ Some t → BackAt ps t
back_sound ps t h = back_from_sound ps t (behind 40 ps) refl h

-- what is added
record WordAt (ps : Pieces) (t : ℕ × Pieces) : Type 0 where
  p : List ℕ
  word : IsWord p t.0
  is : ps ≡ p ∷ t.1

word_from_sound : (w : List ℕ) (ps : Pieces) (t : ℕ × Pieces) (o : Option ℕ) → bits_in 2147483648 w ≡ o → word_from o ps ≡ Some t → WordAt (w ∷ ps) t
word_from_sound w ps t None e h = nothing t h
word_from_sound w ps t (Some n) e h =
    let found : WordAt (w ∷ ps) (n, ps) = record { p = w; word = bits_sound 2147483648 w n (lit≤ tt) e; is = refl } in
    subst (WordAt (w ∷ ps)) (same _ t h) found

word_sound : (ps : Pieces) (t : ℕ × Pieces) → word_of ps ≡ Some t → WordAt ps t
word_sound [] t h = nothing t h
word_sound (w ∷ ps) t h = word_from_sound w ps t (bits_in 2147483648 w) refl h

record PlusAt (ps : Pieces) (t : ℕ × Pieces) : Type 0 where
  p : List ℕ
  word : IsWord p t.0
  is : ps ≡ codes "+" ∷ p ∷ t.1

plus_from_sound : (ps : Pieces) (t : ℕ × Pieces) (o : Option Pieces) → behind 43 ps ≡ o → plus_from o ≡ Some t → PlusAt ps t
plus_from_sound ps t None e h = nothing t h
plus_from_sound ps t (Some qs) e h =
    let w = word_sound qs t h in
    record { p = w.p; word = w.word; is = behind_sound 43 ps qs e ∙ ap (λ (x : Pieces). codes "+" ∷ x) w.is }

plus_sound : (ps : Pieces) (t : ℕ × Pieces) → plus ps ≡ Some t → PlusAt ps t
plus_sound ps t h = plus_from_sound ps t (behind 43 ps) refl h

-- an operand stands in front
pub record SoundAt (ps : Pieces) (t : Operand × Shape × Pieces) : Type 0 where
  pub front : Pieces
  pub operand : IsOperand front t.0 t.1
  pub is : ps ≡ front ++ t.2

abbrev Taken : Type 0
Taken = Operand × Shape × Pieces

-- a name with parentheses behind it, or alone
named_back : (name : List ℕ) (ps rest front : Pieces) (base : Option Register) (index : Option Index) → IsName name → IsBack front base index → ps ≡ front ++ rest → SoundAt (name ∷ ps) (memory (Some name) 0 base index, shape_behind base index, rest)
named_back name ps rest front base index n Absent e = record { front = name ∷ []; operand = Bare name n; is = ap (λ (x : Pieces). name ∷ x) e }
named_back name ps rest front base index n (Base r) e = record { front = name ∷ (codes "(" ∷ register_text r ∷ codes ")" ∷ []); operand = Memory (name ∷ []) (codes "(" ∷ register_text r ∷ codes ")" ∷ []) (Some name) 0 (Some r) None (Label name n) (Base r) (λ q. cc) (λ other is q. cc); is = ap (λ (x : Pieces). name ∷ x) e }
named_back name ps rest front base index n (Scaled i p s c) e = record { front = name ∷ (codes "(" ∷ codes "," ∷ register_text (index_register i) ∷ codes "," ∷ p ∷ codes ")" ∷ []); operand = Memory (name ∷ []) (codes "(" ∷ codes "," ∷ register_text (index_register i) ∷ codes "," ∷ p ∷ codes ")" ∷ []) (Some name) 0 None (Some (record { register = i; scale = s })) (Label name n) (Scaled i p s c) (λ q. cc) (λ other is q. cc); is = ap (λ (x : Pieces). name ∷ x) e }
named_back name ps rest front base index n (BaseScaled r i p s c) e = record { front = name ∷ (codes "(" ∷ register_text r ∷ codes "," ∷ register_text (index_register i) ∷ codes "," ∷ p ∷ codes ")" ∷ []); operand = Memory (name ∷ []) (codes "(" ∷ register_text r ∷ codes "," ∷ register_text (index_register i) ∷ codes "," ∷ p ∷ codes ")" ∷ []) (Some name) 0 (Some r) (Some (record { register = i; scale = s })) (Label name n) (BaseScaled r i p s c) (λ q. cc) (λ other is q. cc); is = ap (λ (x : Pieces). name ∷ x) e }

named_from_sound : (name : List ℕ) (ps : Pieces) (t : Taken) (o : Option Back) → IsName name → back ps ≡ o → named_from name o ≡ Some t → SoundAt (name ∷ ps) t
named_from_sound name ps t None n e h = nothing t h
named_from_sound name ps t (Some u) n e h =
    let b = back_sound ps u e in
    subst (SoundAt (name ∷ ps)) (same _ t h) (named_back name ps u.2 b.front u.0 u.1 n b.back b.is)

-- a name and what is added to it
long_three : (a b c : List ℕ) (qs : Pieces) → IsNoLoneName (a ∷ b ∷ c ∷ qs)
long_three a b c qs name n q = cc

plus_back_sound : (name p : List ℕ) (n : ℕ) (ps : Pieces) (t : Taken) (o : Option Back) → IsName name → IsWord p n → back ps ≡ o → memory_from (Some name) n o ≡ Some t → SoundAt (name ∷ codes "+" ∷ p ∷ ps) t
plus_back_sound name p n ps t None i w e h = nothing t h
plus_back_sound name p n ps t (Some u) i w e h =
    let b = back_sound ps u e in
    let found : SoundAt (name ∷ codes "+" ∷ p ∷ ps) (memory (Some name) n u.0 u.1, shape.Memory, u.2) = record {
      front = name ∷ codes "+" ∷ p ∷ b.front;
      operand = Memory (name ∷ codes "+" ∷ p ∷ []) b.front (Some name) n u.0 u.1 (LabelPlus name p n i w) b.back (λ q. cc) (long_three name (codes "+") p b.front);
      is = ap (λ (x : Pieces). name ∷ codes "+" ∷ p ∷ x) b.is;
    } in
    subst (SoundAt (name ∷ codes "+" ∷ p ∷ ps)) (same _ t h) found

named_sound : (name : List ℕ) (ps : Pieces) (t : Taken) (o : Option (ℕ × Pieces)) → IsName name → plus ps ≡ o → named name o ps ≡ Some t → SoundAt (name ∷ ps) t
named_sound name ps t None n e h = named_from_sound name ps t (back ps) n refl h
named_sound name ps t (Some u) n e h =
    let q = plus_sound ps u e in
    subst (λ (x : Pieces). SoundAt (name ∷ x) t) (sym q.is) (plus_back_sound name q.p u.0 u.1 t (back u.1) n q.word refl h)

-- a number with parentheses behind it, or alone
no_name : (w : List ℕ) (n : ℕ) → IsWord w n → IsName w → ⊥
no_name w n h i = false≢true (sym (bits_no_name 2147483648 w n h) ∙ name_some w i)

number_alone : (w : List ℕ) (n : ℕ) (qs : Pieces) → IsWord w n → IsNoLoneName (w ∷ qs)
number_alone w n qs h name i q = let e : w ≡ name = cc in no_name w n h (subst IsName (sym e) i)

number_back_sound : (w : List ℕ) (n : ℕ) (ps : Pieces) (t : Taken) (o : Option Back) → IsWord w n → back ps ≡ o → memory_from None n o ≡ Some t → SoundAt (w ∷ ps) t
number_back_sound w n ps t None i e h = nothing t h
number_back_sound w n ps t (Some u) i e h =
    let b = back_sound ps u e in
    let found : SoundAt (w ∷ ps) (memory None n u.0 u.1, shape.Memory, u.2) = record {
      front = w ∷ b.front;
      operand = Memory (w ∷ []) b.front None n u.0 u.1 (Plus w n i) b.back (λ q. cc) (number_alone w n b.front i);
      is = ap (λ (x : Pieces). w ∷ x) b.is;
    } in
    subst (SoundAt (w ∷ ps)) (same _ t h) found

-- parentheses alone
open_alone : (qs : Pieces) → IsNoLoneName (codes "(" ∷ qs)
open_alone qs name i q = let e : codes "(" ≡ name = cc in false≢true (subst IsName (sym e) i).0

closed_back_sound : (ps : Pieces) (t : Taken) (o : Option Back) → closed ps ≡ o → memory_from None 0 o ≡ Some t → SoundAt (codes "(" ∷ ps) t
closed_back_sound ps t None e h = nothing t h
closed_back_sound ps t (Some u) e h =
    let c = closed_sound ps u e in
    let found : SoundAt (codes "(" ∷ ps) (memory None 0 u.0 u.1, shape.Memory, u.2) = record {
      front = codes "(" ∷ c.mid;
      operand = Memory [] (codes "(" ∷ c.mid) None 0 u.0 u.1 Nothing c.back (λ q. cc) (open_alone c.mid);
      is = ap (λ (x : Pieces). codes "(" ∷ x) c.is;
    } in
    subst (SoundAt (codes "(" ∷ ps)) (same _ t h) found

open_sound : (w : List ℕ) (ps : Pieces) (t : Taken) (b : Bool) → is_mark 40 w ≡ b → cond b (memory_from None 0 (closed ps)) None ≡ Some t → SoundAt (w ∷ ps) t
open_sound w ps t true e h = subst (λ (x : List ℕ). SoundAt (x ∷ ps) t) (sym (mark_sound 40 w e)) (closed_back_sound ps t (closed ps) refl h)
open_sound w ps t false e h = nothing t h

numbered_sound : (w : List ℕ) (ps : Pieces) (t : Taken) (o : Option ℕ) → bits_in 2147483648 w ≡ o → numbered o w ps ≡ Some t → SoundAt (w ∷ ps) t
numbered_sound w ps t None e h = open_sound w ps t (is_mark 40 w) refl h
numbered_sound w ps t (Some n) e h = number_back_sound w n ps t (back ps) (bits_sound 2147483648 w n (lit≤ tt) e) refl h

memory_sound : (w : List ℕ) (ps : Pieces) (t : Taken) (b : Bool) → is_name w ≡ b → cond b (named w (plus ps) ps) (numbered (bits_in 2147483648 w) w ps) ≡ Some t → SoundAt (w ∷ ps) t
memory_sound w ps t true e h = named_sound w ps t (plus ps) (name_sound w e) refl h
memory_sound w ps t false e h = numbered_sound w ps t (bits_in 2147483648 w) refl h

-- behind a '$'
symbol_sound : (name : List ℕ) (ps : Pieces) (o : Option (ℕ × Pieces)) → IsName name → plus ps ≡ o → SoundAt (codes "$" ∷ name ∷ ps) (symbol_from name o ps)
symbol_sound name ps None n e = record { front = codes "$" ∷ name ∷ []; operand = Symbol name n; is = refl }
symbol_sound name ps (Some u) n e =
    let q = plus_sound ps u e in
    record { front = codes "$" ∷ name ∷ codes "+" ∷ q.p ∷ []; operand = SymbolPlus name q.p u.0 n q.word; is = ap (λ (x : Pieces). codes "$" ∷ name ∷ x) q.is }

number_from_sound : (w : List ℕ) (ps : Pieces) (t : Taken) (o : Option ℕ) → bits_in 2147483648 w ≡ o → number_from o ps ≡ Some t → SoundAt (codes "$" ∷ w ∷ ps) t
number_from_sound w ps t None e h = nothing t h
number_from_sound w ps t (Some n) e h =
    let found : SoundAt (codes "$" ∷ w ∷ ps) (operand.Number n, shape.Number, ps) = record { front = codes "$" ∷ w ∷ []; operand = Number w n (bits_sound 2147483648 w n (lit≤ tt) e); is = refl } in
    subst (SoundAt (codes "$" ∷ w ∷ ps)) (same _ t h) found

immediate_at_sound : (w : List ℕ) (ps : Pieces) (t : Taken) (b : Bool) → is_name w ≡ b → cond b (Some (symbol_from w (plus ps) ps)) (number_from (bits_in 2147483648 w) ps) ≡ Some t → SoundAt (codes "$" ∷ w ∷ ps) t
immediate_at_sound w ps t true e h = subst (SoundAt (codes "$" ∷ w ∷ ps)) (same _ t h) (symbol_sound w ps (plus ps) (name_sound w e) refl)
immediate_at_sound w ps t false e h = number_from_sound w ps t (bits_in 2147483648 w) refl h

immediate_sound : (ps : Pieces) (t : Taken) → immediate ps ≡ Some t → SoundAt (codes "$" ∷ ps) t
immediate_sound [] t h = nothing t h
immediate_sound (w ∷ ps) t h = immediate_at_sound w ps t (is_name w) refl h

-- behind a '*'
through_from_sound : (w : List ℕ) (ps : Pieces) (t : Taken) (o : Option Register) → register_in w ≡ o → through_from o ps ≡ Some t → SoundAt (codes "*" ∷ w ∷ ps) t
through_from_sound w ps t None e h = nothing t h
through_from_sound w ps t (Some r) e h =
    let found : SoundAt (codes "*" ∷ w ∷ ps) (operand.Through r, shape.Through, ps) = record { front = codes "*" ∷ register_text r ∷ []; operand = Through r; is = ap (λ (x : List ℕ). let q : Pieces = codes "*" ∷ x ∷ ps in q) (register_sound w r e) } in
    subst (SoundAt (codes "*" ∷ w ∷ ps)) (same _ t h) found

through_sound : (ps : Pieces) (t : Taken) → through ps ≡ Some t → SoundAt (codes "*" ∷ ps) t
through_sound [] t h = nothing t h
through_sound (w ∷ ps) t h = through_from_sound w ps t (register_in w) refl h

-- registers, and what is none
plain_sound : (w : List ℕ) (ps : Pieces) (t : Taken) (o : Option Register) (b : Option ByteRegister) (f : Option HalfRegister) → register_in w ≡ o → byte_in w ≡ b → half_in w ≡ f → plain_from o b f w ps ≡ Some t → SoundAt (w ∷ ps) t
plain_sound w ps t (Some r) b f e i j h =
    let found : SoundAt (w ∷ ps) (operand.Word r, shape.Word, ps) = record { front = register_text r ∷ []; operand = Word r; is = ap (λ (x : List ℕ). let q : Pieces = x ∷ ps in q) (register_sound w r e) } in
    subst (SoundAt (w ∷ ps)) (same _ t h) found
plain_sound w ps t None (Some r) f e i j h =
    let found : SoundAt (w ∷ ps) (operand.Byte r, shape_of (operand.Byte r), ps) = record { front = byte_text r ∷ []; operand = Byte r; is = ap (λ (x : List ℕ). let q : Pieces = x ∷ ps in q) (byte_sound w r i) } in
    subst (SoundAt (w ∷ ps)) (same _ t h) found
plain_sound w ps t None None (Some r) e i j h =
    let found : SoundAt (w ∷ ps) (operand.Half r, shape.Half, ps) = record { front = half_text r ∷ []; operand = Half r; is = ap (λ (x : List ℕ). let q : Pieces = x ∷ ps in q) (half_sound w r j) } in
    subst (SoundAt (w ∷ ps)) (same _ t h) found
plain_sound w ps t None None None e i j h = memory_sound w ps t (is_name w) refl h

star_sound : (w : List ℕ) (ps : Pieces) (t : Taken) (b : Bool) → is_mark 42 w ≡ b → cond b (through ps) (plain_at w ps) ≡ Some t → SoundAt (w ∷ ps) t
star_sound w ps t true e h = subst (λ (x : List ℕ). SoundAt (x ∷ ps) t) (sym (mark_sound 42 w e)) (through_sound ps t h)
star_sound w ps t false e h = plain_sound w ps t (register_in w) (byte_in w) (half_in w) refl refl refl h

dollar_sound : (w : List ℕ) (ps : Pieces) (t : Taken) (b : Bool) → is_mark 36 w ≡ b → cond b (immediate ps) (cond (is_mark 42 w) (through ps) (plain_at w ps)) ≡ Some t → SoundAt (w ∷ ps) t
dollar_sound w ps t true e h = subst (λ (x : List ℕ). SoundAt (x ∷ ps) t) (sym (mark_sound 36 w e)) (immediate_sound ps t h)
dollar_sound w ps t false e h = star_sound w ps t (is_mark 42 w) refl h

pub operand_sound : (ps : Pieces) (t : Taken) → take_operand ps ≡ Some t → SoundAt ps t
operand_sound [] t h = nothing t h
operand_sound (w ∷ ps) t h = dollar_sound w ps t (is_mark 36 w) refl h

-- lists of operands
abbrev Both : Type 0
Both = Operands × Pattern

record OperandsAt (ps : Pieces) (t : Both) : Type 0 where
  operands : AreOperands ps t.0 t.1

second_end_sound : (front ps qs : Pieces) (o : Operand) (s : Shape) (p : Operand) (r : Shape) (t : Both) → IsOperand front o s → SoundAt ps (p, r, qs) → second_end o s p r qs ≡ Some t → OperandsAt (front ++ codes "," ∷ ps) t
second_end_sound front ps (w ∷ qs) o s p r t a b h = nothing t h
second_end_sound front ps [] o s p r t a b h =
    let whole : b.front ≡ ps = sym (append-nil b.front) ∙ sym b.is in
    let found : OperandsAt (front ++ codes "," ∷ ps) (two_of o p, both_of s r) = record { operands = subst (λ (x : Pieces). AreOperands (front ++ codes "," ∷ x) (two_of o p) (both_of s r)) whole (TwoOperands front b.front o p s r a b.operand) } in
    subst (OperandsAt (front ++ codes "," ∷ ps)) (same _ t h) found

second_sound : (front ps : Pieces) (o : Operand) (s : Shape) (t : Both) (u : Option Taken) → IsOperand front o s → take_operand ps ≡ u → second_from o s u ≡ Some t → OperandsAt (front ++ codes "," ∷ ps) t
second_sound front ps o s t None a e h = nothing t h
second_sound front ps o s t (Some u) a e h = second_end_sound front ps u.2 o s u.0 u.1 t a (operand_sound ps u e) h

comma_sound : (front ps : Pieces) (o : Operand) (s : Shape) (t : Both) (u : Option Pieces) → IsOperand front o s → behind 44 ps ≡ u → behind_comma o s u ≡ Some t → OperandsAt (front ++ ps) t
comma_sound front ps o s t None a e h = nothing t h
comma_sound front ps o s t (Some qs) a e h = subst (λ (x : Pieces). OperandsAt (front ++ x) t) (sym (behind_sound 44 ps qs e)) (second_sound front qs o s t (take_operand qs) a refl h)

behind_first_sound : (front ps : Pieces) (o : Operand) (s : Shape) (t : Both) → IsOperand front o s → behind_first o s ps ≡ Some t → OperandsAt (front ++ ps) t
behind_first_sound front [] o s t a h =
    let found : OperandsAt (front ++ []) (two_of o operand.Absent, both_of s shape.Absent) = record { operands = subst (λ (x : Pieces). AreOperands x (two_of o operand.Absent) (both_of s shape.Absent)) (sym (append-nil front)) (OneOperand front o s a) } in
    subst (OperandsAt (front ++ [])) (same _ t h) found
behind_first_sound front (w ∷ ps) o s t a h = comma_sound front (w ∷ ps) o s t (behind 44 (w ∷ ps)) a refl h

first_sound : (ps : Pieces) (t : Both) (u : Option Taken) → take_operand ps ≡ u → first_from u ≡ Some t → OperandsAt ps t
first_sound ps t None e h = nothing t h
first_sound ps t (Some u) e h =
    let a = operand_sound ps u e in
    subst (λ (x : Pieces). OperandsAt x t) (sym a.is) (behind_first_sound a.front u.2 u.0 u.1 t a.operand h)

operands_at : (ps : Pieces) (t : Both) → operands_in ps ≡ Some t → OperandsAt ps t
operands_at [] t h =
    let found : OperandsAt [] (two_of operand.Absent operand.Absent, both_of shape.Absent shape.Absent) = record { operands = NoOperand } in
    subst (OperandsAt []) (same _ t h) found
operands_at (w ∷ ps) t h = first_sound (w ∷ ps) t (take_operand (w ∷ ps)) refl h

pub operands_sound : (ps : Pieces) (o : Operands) (p : Pattern) → operands_in ps ≡ Some (o, p) → AreOperands ps o p
operands_sound ps o p h = (operands_at ps (o, p) h).operands
