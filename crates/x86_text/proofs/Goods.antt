-- Lines that are good, one after the other, say a whole assembly.
use Rattle.std.proofs.Common.{◌≡◌, ◌⊎◌, ℕ, ◌^◌, ◌<◌, ◌≤◌, List, [], ◌∷◌, ◌++◌, refl, sym, ap, subst, inl, inr, Bool, false, Option, Some, None, arith}
use Rattle.std.specs.Prelude.{◌↔◌, MatchOption, codes}
use Rattle.tso_core.specs.Systems.{Names}
use Rattle.x86_table.specs.Names.{AllOf}
use Rattle.x86_table.specs.declared.instruction.Instr.{Instr}
use Rattle.x86_lines.specs.Grammar.{HasShortShift}
use Rattle.x86_lang.specs.declared.assembly.CodeLine.TheVariants as code
use Rattle.x86_lang.specs.declared.assembly.StaticLine.{StaticLine}
use Rattle.x86_lang.specs.declared.assembly.StaticLine.TheVariants as statics
use Rattle.x86_lang.specs.declared.assembly.Parts.{Parts}
use Rattle.x86_lang.specs.Assembly.{code_start, data_start, heap_start, code_end, data_end, instructions}
use Rattle.x86_lang.specs.Whole.{IsMade, names_made, IsLabel, IsRightInstr, IsExtern, HasWords, FitsWidth, IsAlignment, IsCodeLabel, IsWhole}
use Rattle.x86_text.specs.declared.line.Line.{Line}
use Rattle.x86_text.specs.Text.{Says, Gathered, adds, opening, lines, Gathers, End, Next, AsmOf}
use Rattle.x86_text.specs.Bad.{Hears, Over, Heard, Made, section, makes, all_made, IsMadeAs, IsLabelOf, InstrNames, UsesMade, MakesTaken, IsTooLong}
use Rattle.x86_text.proofs.Assembled.{all_both}
use Rattle.x86_text.proofs.Placed.{Differ, to_names_differ}
use Rattle.x86_text.proofs.Growing
use Rattle.x86_text.proofs.Growing.{Grown, grown, RightLine, NamesGrow, names_grow, section_grows, IsMadeIn, made_grows, all_fresh, all_names, Put, put, differ_grows, made_right_grows, instructions_both}
use Rattle.x86_text.proofs.Used.{label_to, instr_to}
use Rattle.x86_text.proofs.Ranged.{says_right}
use Rattle.x86_text.proofs.OneSaying.{one_saying}

-- a line that is not bad, and what there is behind it
pub record Fine (all : List (Names × Made)) (g : Gathered) (l : Line) (h : Gathered) : Type 0 where
  pub added : adds g l ≡ Some h
  pub in_range : IsTooLong h.parts → ⊥
  pub fresh : MakesTaken g.parts l → ⊥
  pub uses : UsesMade all l

pub data GoodAll (all : List (Names × Made)) : Gathered → List (Option Line) → Gathered → Type 0 where
  Done : (g : Gathered) → GoodAll all g [] g
  More : (g h k : Gathered) (l : Line) (more : List (Option Line)) → Fine all g l h → GoodAll all h more k → GoodAll all g (Some l ∷ more) k

abbrev RightOp : List (Names × Made) → Instr → Type 0
RightOp all i = InstrNames all i × HasWords i × HasShortShift i

abbrev RightStatic : StaticLine → Type 0
RightStatic s = FitsWidth s × IsAlignment s

-- what is known of the parts so far
pub record Good (all : List (Names × Made)) (p : Parts) : Type 0 where
  pub differ : Differ (names_made p)
  pub made : AllOf IsMade (names_made p)
  pub ops : AllOf (RightOp all) (instructions p.code)
  pub exports : AllOf (IsLabelOf all) p.exports
  pub externs : AllOf IsExtern p.externs
  pub statics : AllOf RightStatic p.statics
  pub pace : p.pace < 2 ^ 128
  pub code_fits : code_end code_start p.code ≤ data_start
  pub data_fits : data_end data_start p.statics ≤ heap_start

ops_grow : (all : List (Names × Made)) (g h : Gathered) (l : Line) → Grown g l h → RightLine l → UsesMade all l → AllOf (RightOp all) (instructions g.parts.code) → AllOf (RightOp all) (instructions h.parts.code)
ops_grow all g h l Growing.Nothing r u k = k
ops_grow all g h l (Growing.Pace n) r u k = k
ops_grow all g h l (Growing.Extern name n) r u k = k
ops_grow all g h l Growing.Text r u k = k
ops_grow all g h l Growing.Data r u k = k
ops_grow all g h l (Growing.Export name) r u k = k
ops_grow all g h l (Growing.InCode name e) r u k = subst (AllOf (RightOp all)) (sym (instructions_both g.parts.code (code.Label name ∷ []))) (all_both (RightOp all) (instructions g.parts.code) [] k tt)
ops_grow all g h l (Growing.InData name e) r u k = k
ops_grow all g h l (Growing.Datum s e) r u k = k
ops_grow all g h l (Growing.Op i e) r u k = subst (AllOf (RightOp all)) (sym (instructions_both g.parts.code (code.Op i ∷ []))) (all_both (RightOp all) (instructions g.parts.code) (i ∷ []) k ((u, r.0, r.1), tt))

exports_grow : (all : List (Names × Made)) (g h : Gathered) (l : Line) → Grown g l h → UsesMade all l → AllOf (IsLabelOf all) g.parts.exports → AllOf (IsLabelOf all) h.parts.exports
exports_grow all g h l Growing.Nothing u k = k
exports_grow all g h l (Growing.Pace n) u k = k
exports_grow all g h l (Growing.Extern name n) u k = k
exports_grow all g h l Growing.Text u k = k
exports_grow all g h l Growing.Data u k = k
exports_grow all g h l (Growing.Export name) u k = all_both (IsLabelOf all) g.parts.exports (name ∷ []) k (u, tt)
exports_grow all g h l (Growing.InCode name e) u k = k
exports_grow all g h l (Growing.InData name e) u k = k
exports_grow all g h l (Growing.Datum s e) u k = k
exports_grow all g h l (Growing.Op i e) u k = k

externs_grow : (g h : Gathered) (l : Line) → Grown g l h → RightLine l → AllOf IsExtern g.parts.externs → AllOf IsExtern h.parts.externs
externs_grow g h l Growing.Nothing r k = k
externs_grow g h l (Growing.Pace n) r k = k
externs_grow g h l (Growing.Extern name n) r k = all_both IsExtern g.parts.externs ((name, n) ∷ []) k (r.1, tt)
externs_grow g h l Growing.Text r k = k
externs_grow g h l Growing.Data r k = k
externs_grow g h l (Growing.Export name) r k = k
externs_grow g h l (Growing.InCode name e) r k = k
externs_grow g h l (Growing.InData name e) r k = k
externs_grow g h l (Growing.Datum s e) r k = k
externs_grow g h l (Growing.Op i e) r k = k

statics_grow : (g h : Gathered) (l : Line) → Grown g l h → RightLine l → AllOf RightStatic g.parts.statics → AllOf RightStatic h.parts.statics
statics_grow g h l Growing.Nothing r k = k
statics_grow g h l (Growing.Pace n) r k = k
statics_grow g h l (Growing.Extern name n) r k = k
statics_grow g h l Growing.Text r k = k
statics_grow g h l Growing.Data r k = k
statics_grow g h l (Growing.Export name) r k = k
statics_grow g h l (Growing.InCode name e) r k = k
statics_grow g h l (Growing.InData name e) r k = all_both RightStatic g.parts.statics (statics.Label name ∷ []) k ((tt, tt), tt)
statics_grow g h l (Growing.Datum s e) r k = all_both RightStatic g.parts.statics (s ∷ []) k ((r.1, r.2), tt)
statics_grow g h l (Growing.Op i e) r k = k

pace_grows : (g h : Gathered) (l : Line) → Grown g l h → RightLine l → g.parts.pace < 2 ^ 128 → h.parts.pace < 2 ^ 128
pace_grows g h l Growing.Nothing r k = k
pace_grows g h l (Growing.Pace n) r k = r
pace_grows g h l (Growing.Extern name n) r k = k
pace_grows g h l Growing.Text r k = k
pace_grows g h l Growing.Data r k = k
pace_grows g h l (Growing.Export name) r k = k
pace_grows g h l (Growing.InCode name e) r k = k
pace_grows g h l (Growing.InData name e) r k = k
pace_grows g h l (Growing.Datum s e) r k = k
pace_grows g h l (Growing.Op i e) r k = k

within : (a b : ℕ) → (b < a → ⊥) → a ≤ b
within a b h = omega (arith, h)

good_grows : (all : List (Names × Made)) (g h : Gathered) (l : Line) → RightLine l → Fine all g l h → Good all g.parts → Good all h.parts
good_grows all g h l r f k =
    let how : Grown g l h = grown g h l f.added in
    let new = put g.parts h.parts (makes g.in_data (Some l)) (names_grow g h l how r) in
    let fresh = all_fresh g.parts g.in_data l f.fresh in
    record {
      differ = differ_grows g.parts h.parts (makes g.in_data (Some l)) new fresh k.differ;
      made = made_right_grows g.parts h.parts (makes g.in_data (Some l)) new fresh (all_names g.in_data l r) k.made;
      ops = ops_grow all g h l how r f.uses k.ops;
      exports = exports_grow all g h l how f.uses k.exports;
      externs = externs_grow g h l how r k.externs;
      statics = statics_grow g h l how r k.statics;
      pace = pace_grows g h l how r k.pace;
      code_fits = within (code_end code_start h.parts.code) data_start (λ t. f.in_range (inl t));
      data_fits = within (data_end data_start h.parts.statics) heap_start (λ t. f.in_range (inr t));
    }

-- along the lines
pub good_gathers : (all : List (Names × Made)) (g k : Gathered) (ls : List (List ℕ)) (said : List (Option Line)) → Hears ls said → GoodAll all g said k → Gathers g ls k
good_gathers all g k ls said Over (Done x) = End x
good_gathers all g k ls said (Heard bytes rest o more m hears) (More x h y l rests f good) = Next x h y bytes rest l m f.added (good_gathers all h y rest more hears good)

pub good_parts : (all : List (Names × Made)) (g k : Gathered) (ls : List (List ℕ)) (said : List (Option Line)) → Hears ls said → GoodAll all g said k → Good all g.parts → Good all k.parts
good_parts all g k ls said Over (Done x) good = good
good_parts all g k ls said (Heard bytes rest o more m hears) (More x h y l rests f all_good) good = good_parts all h y rest more hears all_good (good_grows all x h l (says_right bytes l m) f good)

-- what all lines make is what the parts make
left_more : {X Y Z : Type 0} → (X ⊎ Y) ⊎ Z → X ⊎ (Y ⊎ Z)
left_more (inl (inl x)) = inl x
left_more (inl (inr y)) = inr (inl y)
left_more (inr z) = inr (inr z)

right_more : {X Y Z : Type 0} → X ⊎ (Y ⊎ Z) → (X ⊎ Y) ⊎ Z
right_more (inl x) = inl (inl x)
right_more (inr (inl y)) = inl (inr y)
right_more (inr (inr z)) = inr z

pub on_left : {X Y Z : Type 0} → (X → Y) → X ⊎ Z → Y ⊎ Z
on_left f (inl x) = inl (f x)
on_left f (inr z) = inr z

on_right : {X Y Z : Type 0} → (X → Y) → Z ⊎ X → Z ⊎ Y
on_right f (inl z) = inl z
on_right f (inr x) = inr (f x)

pub made_split : (name : Names) (m : Made) (xs ys : List (Names × Made)) → IsMadeAs name m (xs ++ ys) → IsMadeAs name m xs ⊎ IsMadeAs name m ys
made_split name m [] ys h = inr h
made_split name m (x ∷ xs) ys (inl e) = inl (inl e)
made_split name m (x ∷ xs) ys (inr h) = on_left inr (made_split name m xs ys h)

pub made_joined : (name : Names) (m : Made) (xs ys : List (Names × Made)) → IsMadeAs name m xs ⊎ IsMadeAs name m ys → IsMadeAs name m (xs ++ ys)
made_joined name m [] ys (inl h) = absurd h
made_joined name m [] ys (inr h) = h
made_joined name m (x ∷ xs) ys (inl (inl e)) = inl e
made_joined name m (x ∷ xs) ys (inl (inr h)) = inr (made_joined name m xs ys (inl h))
made_joined name m (x ∷ xs) ys (inr h) = inr (made_joined name m xs ys (inr h))

from_nothing : {X : Type 0} → X ⊎ ⊥ → X
from_nothing (inl x) = x
from_nothing (inr h) = absurd h

pub said_is : (bytes : List ℕ) (l : Line) (o : Option Line) → Says bytes l → MatchOption o ((x : Line) → ¬ Says bytes x) (λ x. Says bytes x) → o ≡ Some l
said_is bytes l None s h = absurd (h l s)
said_is bytes l (Some x) s h = ap Some (one_saying bytes x l h s)

pub made_all : (g k : Gathered) (ls : List (List ℕ)) (said : List (Option Line)) → Gathers g ls k → Hears ls said → (name : Names) (m : Made) → IsMadeIn k.parts name m ↔ (IsMadeIn g.parts name m ⊎ IsMadeAs name m (all_made g.in_data said))
made_all g k ls said (End x) Over name m = (inl, from_nothing)
made_all g k ls said (Next x h y bytes rest l says added more) (Heard bytes' rest' o rests n hears) name m =
    let how : Grown x l h = grown x h l added in
    let is : o ≡ Some l = said_is bytes l o says n in
    let now = made_grows x.parts h.parts (makes x.in_data (Some l)) (names_grow x h l how (says_right bytes l says)) name m in
    let later = made_all h y rest rests more hears name m in
    let behind = subst (λ (d : Bool). IsMadeIn y.parts name m ↔ (IsMadeIn h.parts name m ⊎ IsMadeAs name m (all_made d rests))) (section_grows x h l how) later in
    subst (λ (z : Option Line). IsMadeIn y.parts name m ↔ (IsMadeIn x.parts name m ⊎ IsMadeAs name m (all_made x.in_data (z ∷ rests)))) (sym is) (
      λ t. on_right (made_joined name m (makes x.in_data (Some l)) (all_made (section x.in_data (Some l)) rests)) (left_more (on_left now.0 (behind.0 t))),
      λ t. behind.1 (on_left now.1 (right_more (on_right (made_split name m (makes x.in_data (Some l)) (all_made (section x.in_data (Some l)) rests)) t))),
    )

-- at the end
all_map : {X : Type 0} (P Q : X → Type 0) → ((x : X) → P x → Q x) → (xs : List X) → AllOf P xs → AllOf Q xs
all_map P Q f [] h = tt
all_map P Q f (x ∷ xs) h = (f x h.0, all_map P Q f xs h.1)

whole_of : (all : List (Names × Made)) (p : Parts) → Good all p → ((name : Names) (m : Made) → IsMadeAs name m all → IsMadeIn p name m) → IsCodeLabel p (codes "main") → IsWhole p
whole_of all p good to main = record {
  names_differ = to_names_differ (names_made p) good.differ;
  names_made_right = good.made;
  uses = all_map (RightOp all) (IsRightInstr p) (λ i r. instr_to all p to i r.2 r.0) (instructions p.code) good.ops;
  exports = all_map (IsLabelOf all) (IsLabel p) (label_to all p to) p.exports good.exports;
  starts = main;
  extern_words = good.externs;
  numbers = all_map (RightOp all) HasWords (λ i r. r.1) (instructions p.code) good.ops;
  widths = all_map RightStatic FitsWidth (λ s r. r.0) p.statics good.statics;
  pace_fits = good.pace;
  alignments = all_map RightStatic IsAlignment (λ s r. r.1) p.statics good.statics;
  code_fits = good.code_fits;
  data_fits = good.data_fits;
}

good_opening : (all : List (Names × Made)) → Good all opening.parts
good_opening all = record {
  differ = tt;
  made = tt;
  ops = tt;
  exports = tt;
  externs = tt;
  statics = tt;
  pace = omega arith;
  code_fits = omega arith;
  data_fits = omega arith;
}

pub good_is_text : (text : List ℕ) (said : List (Option Line)) (k : Gathered) → Hears (lines text) said → GoodAll (all_made false said) opening said k → IsCodeLabel k.parts (codes "main") → AsmOf text k.parts
good_is_text text said k hears good main =
    let says = good_gathers (all_made false said) opening k (lines text) said hears good in
    let parts = good_parts (all_made false said) opening k (lines text) said hears good (good_opening (all_made false said)) in
    record {
      gathered = k;
      says = says;
      parts = refl;
      whole = whole_of (all_made false said) k.parts parts (λ name m h. (made_all opening k (lines text) said says hears name m).1 (inr h)) main;
    }
