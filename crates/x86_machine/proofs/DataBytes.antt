-- Bytes of the data, one after another.
use Rattle.std.proofs.Common.{◌≡◌, ◌≢◌, ℕ, zero, suc, ◌+◌, ◌-◌, ◌*◌, ◌/◌, ◌%◌, ◌<◌, ◌≤◌, ◌⊎◌, inl, inr, Bool, true, false, List, [], ◌∷◌, ◌++◌, length, get_or, take, drop, subst, refl, sym, ap, ◌∙◌, arith, if◌then◌else◌, ◌==◌}
use Rattle.std.specs.Prelude.{nat_le}
use Rattle.std.proofs.lemmas.List.{get_or_append_left, get_or-append_right, get_or_past, length-append, append_assoc, append-nil, take_all}
use Rattle.std.proofs.lemmas.Bool.{cases_lt, cases_eq, eq-eqb, ne_eqb, le-leb, leb-true, cond-true, cond-false}
use Rattle.x86_steps.specs.declared.access.Size.TheVariants as size
use Rattle.x86_memory.specs.Bytes.{Bytes, written, zeros as zeros_everywhere}
use Rattle.x86_memory.proofs.BytesLaws.{same_bytes}
use Rattle.x86_memory.proofs.Writes.{byte_written}
use Rattle.x86_lang.specs.declared.assembly.StaticLine.{StaticLine}
use Rattle.x86_lang.specs.Whole.{IsAlignment}
use Rattle.x86_table.specs.Names.{AllOf}
use Rattle.x86_lang.specs.Assembly.{data_start, data_end, zeros, little_endian, size_at, bytes_at, bytes_from}
use Rattle.x86_machine.specs.X86Tso.{data_bytes}
use Rattle.x86_machine.proofs.Extents.{line-length}

-- a byte behind the others
last_here : (bs : List ℕ) (v j : ℕ) → j ≡ length bs → get_or (bs ++ v ∷ []) j 0 ≡ v
last_here bs v j e = let le : length bs ≤ j = omega arith in let z : j - length bs ≡ 0 = omega arith in get_or-append_right bs (v ∷ []) (length bs) j 0 refl le ∙ ap (λ k. get_or (v ∷ []) k 0) z

last_elsewhere : (bs : List ℕ) (v j : ℕ) → j ≢ length bs → get_or (bs ++ v ∷ []) j 0 ≡ get_or bs j 0
last_elsewhere bs v j ne = go (cases_lt j (length bs))
  where
    go : (j < length bs) ⊎ (length bs ≤ j) → get_or (bs ++ v ∷ []) j 0 ≡ get_or bs j 0
    go (inl lt) = get_or_append_left bs (v ∷ []) 0 j lt
    go (inr ge) = get_or_past (bs ++ v ∷ []) j 0 (let long : length (bs ++ v ∷ []) ≡ length bs + 1 = length-append bs (v ∷ []) in omega (arith, ne)) ∙ sym (get_or_past bs j 0 ge)

under : (b : Bool) (p q : ℕ) → (b ≡ true → p ≡ q) → (if b then p else 0) ≡ (if b then q else 0)
under true p q h = h refl
under false p q h = refl

more_at : (bs : List ℕ) (at v x : ℕ) → data_start + length bs ≡ at → v < 256 → data_bytes (bs ++ v ∷ []) x ≡ (if x == at then v % 256 else data_bytes bs x)
more_at bs at v x e h = go (cases_eq x at)
  where
    go : (x ≡ at) ⊎ (x ≡ at → ⊥) → data_bytes (bs ++ v ∷ []) x ≡ (if x == at then v % 256 else data_bytes bs x)
    go (inl q) =
        let low : data_start ≤ x = omega arith in
        let j : x - data_start ≡ length bs = omega arith in
        let small : v ≡ v % 256 = omega arith in
        rw (le-leb data_start x low) (last_here bs v (x - data_start) j ∙ (small ∙ sym (cond-true (x == at) (v % 256) (get_or bs (x - data_start) 0) (eq-eqb x at q))))
    go (inr q) =
        under (nat_le data_start x) (get_or (bs ++ v ∷ []) (x - data_start) 0) (get_or bs (x - data_start) 0) (λ t. last_elsewhere bs v (x - data_start) (λ j. let low : data_start ≤ x = leb-true data_start x t in q (omega arith)))
        ∙ sym (cond-false (x == at) (v % 256) (data_bytes bs x) (ne_eqb x at q))

pub data_more : (bs : List ℕ) (at v : ℕ) → data_start + length bs ≡ at → v < 256 → written (data_bytes bs) (record { address = at; size = size.Byte; value = v }) ≡ data_bytes (bs ++ v ∷ [])
data_more bs at v e h = same_bytes _ _ (λ x. sym (byte_written at v x (data_bytes bs x) (data_bytes (bs ++ v ∷ []) x) (more_at bs at v x e h)))

-- two and four bytes
pub half_bytes : (bs : List ℕ) (h : ℕ) → h < 65536 → (bs ++ h % 256 ∷ []) ++ h / 256 ∷ [] ≡ bs ++ little_endian 2 h
half_bytes bs h lt = append_assoc bs (h % 256 ∷ []) (h / 256 ∷ []) ∙ (let e : h / 256 ≡ h / 256 % 256 = omega arith in ap (λ z. bs ++ h % 256 ∷ z ∷ []) e)

pub word_bytes : (bs : List ℕ) (w : ℕ) → (bs ++ little_endian 2 (w % 65536)) ++ little_endian 2 (w / 65536) ≡ bs ++ little_endian 4 w
word_bytes bs w =
    let p : w % 65536 % 256 ≡ w % 256 = omega arith in
    let q : w % 65536 / 256 % 256 ≡ w / 256 % 256 = omega arith in
    let r : w / 65536 % 256 ≡ w / 256 / 256 % 256 = omega arith in
    let s : w / 65536 / 256 % 256 ≡ w / 256 / 256 / 256 % 256 = omega arith in
    append_assoc bs (little_endian 2 (w % 65536)) (little_endian 2 (w / 65536)) ∙ rw (p, q, r, s) refl

-- zeros change nothing
zeros_get : (n j : ℕ) → get_or (zeros n) j 0 ≡ 0
zeros_get zero j = refl
zeros_get (suc n) zero = refl
zeros_get (suc n) (suc j) = zeros_get n j

zeros_behind : (bs : List ℕ) (n j : ℕ) → get_or (bs ++ zeros n) j 0 ≡ get_or bs j 0
zeros_behind bs n j = go (cases_lt j (length bs))
  where
    go : (j < length bs) ⊎ (length bs ≤ j) → get_or (bs ++ zeros n) j 0 ≡ get_or bs j 0
    go (inl lt) = get_or_append_left bs (zeros n) 0 j lt
    go (inr ge) = get_or-append_right bs (zeros n) (length bs) j 0 refl ge ∙ (zeros_get n (j - length bs) ∙ sym (get_or_past bs j 0 ge))

pub data_zeros : (bs : List ℕ) (n : ℕ) → data_bytes bs ≡ data_bytes (bs ++ zeros n)
data_zeros bs n = same_bytes _ _ (λ x. under (nat_le data_start x) (get_or bs (x - data_start) 0) (get_or (bs ++ zeros n) (x - data_start) 0) (λ t. sym (zeros_behind bs n (x - data_start))))

-- the lines so far
pub record Added (all rest : List StaticLine) (at : ℕ) (b : Bytes) : Type 0 where
  pub before : List ℕ
  pub starts : data_start + length before ≡ at
  pub bytes : b ≡ data_bytes before
  pub parts : before ++ bytes_from at rest ≡ bytes_from data_start all

pub added_first : (all : List StaticLine) (b : Bytes) → b ≡ data_bytes [] → Added all all data_start b
added_first all b e = record { before = []; starts = refl; bytes = e; parts = refl }

pub added_last : (all rest : List StaticLine) (at : ℕ) (b : Bytes) → Added all rest at b → length rest ≡ 0 → b ≡ data_bytes (bytes_from data_start all)
added_last all [] at b h e = h.bytes ∙ ap data_bytes (sym (append-nil h.before) ∙ h.parts)
added_last all (line ∷ rest) at b h e = absurd (omega arith)

pub added_more : (all rest : List StaticLine) (line : StaticLine) (after : List StaticLine) (at : ℕ) (b c : Bytes) (h : Added all rest at b) → rest ≡ line ∷ after → c ≡ data_bytes (h.before ++ bytes_at at line) → Added all after (at + size_at at line) c
added_more all rest line after at b c h e f = record {
  before = h.before ++ bytes_at at line;
  starts = omega (arith, h.starts, line-length at line, length-append h.before (bytes_at at line));
  bytes = f;
  parts = append_assoc h.before (bytes_at at line) (bytes_from (at + size_at at line) after) ∙ (ap (λ ls. h.before ++ bytes_from at ls) (sym e) ∙ h.parts);
}

pub added_next : (all rest : List StaticLine) (line : StaticLine) (at : ℕ) (b c : Bytes) (h : Added all rest at b) → 1 ≤ length rest → line ≡ get_or rest 0 line → c ≡ data_bytes (h.before ++ bytes_at at line) → Added all (take (length rest - 1) (drop 1 rest)) (at + size_at at line) c
added_next all [] line at b c h e f g = absurd (omega arith)
added_next all (first ∷ rest) line at b c h e f g =
    let whole : take (length (first ∷ rest) - 1) rest ≡ rest = (let le : length rest ≤ length (first ∷ rest) - 1 = (let p : length (first ∷ rest) ≡ suc (length rest) = refl in omega arith) in take_all (length (first ∷ rest) - 1) rest le) in
    subst (λ ls. Added all ls (at + size_at at line) c) (sym whole) (added_more all (first ∷ rest) line rest at b c h (ap (λ l. l ∷ rest) (sym f)) g)

-- the lines behind the first
behind_first : {X : Type 0} (x : X) (xs : List X) → take (length (x ∷ xs) - 1) xs ≡ xs
behind_first x xs = let le : length xs ≤ length (x ∷ xs) - 1 = (let p : length (x ∷ xs) ≡ suc (length xs) = refl in omega arith) in take_all (length (x ∷ xs) - 1) xs le

pub end_next : (rest : List StaticLine) (line : StaticLine) (at bound k : ℕ) → 1 ≤ length rest → line ≡ get_or rest 0 line → k ≡ size_at at line → data_end at rest ≤ bound → data_end (at + k) (take (length rest - 1) (drop 1 rest)) ≤ bound
end_next [] line at bound k h e f g = absurd (omega arith)
end_next (first ∷ rest) line at bound k h e f g = rw (behind_first first rest, f, e) g

pub aligned_next : (rest : List StaticLine) → 1 ≤ length rest → AllOf IsAlignment rest → AllOf IsAlignment (take (length rest - 1) (drop 1 rest))
aligned_next [] h a = absurd (omega arith)
aligned_next (first ∷ rest) h a = rw (behind_first first rest) a.1

-- no bytes
if_same : (b : Bool) (n : ℕ) → n ≡ (if b then n else n)
if_same true n = refl
if_same false n = refl

pub data_none : zeros_everywhere ≡ data_bytes []
data_none = same_bytes _ _ (λ x. if_same (nat_le data_start x) 0)
