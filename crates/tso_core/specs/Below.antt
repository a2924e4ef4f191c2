-- What of one machine's shared part may be less known than in another's: Undef may become any word, and a blank cell any byte (after the "less defined" of CompCert's values). Everything else is equal.
use Rattle.std.specs.Prelude.{◌≡◌, ◌≢◌, ℕ, List}
use Rattle.std.specs.List.{AllZip}
use Rattle.tso_words.specs.declared.value.Val.{Val}
use Rattle.tso_words.specs.declared.value.Chunk.{Chunk}
use Rattle.tso_words.specs.Below.{ValBelow, CellBelow}
use Rattle.tso_memory.specs.declared.buffer.Item.{Item}
use Rattle.tso_memory.specs.declared.buffer.Item.TheVariants.{Put, Place, Lift}
use Rattle.tso_memory.specs.Memory.{MemoryMeaning}
use Rattle.tso_core.specs.declared.offer.Atomic.{Atomic}
use Rattle.tso_core.specs.declared.offer.Offer.{Offer}
use Rattle.tso_core.specs.declared.offer.Offer.TheVariants as O
use Rattle.tso_core.specs.declared.offer.Answer.{Answer}
use Rattle.tso_core.specs.declared.offer.Answer.TheVariants.{Nothing, Value}
use Rattle.tso_core.specs.declared.offer.Now.TheVariants as N
use Rattle.tso_core.specs.Language.{Takes}
use Rattle.tso_core.specs.Shared.{Shared, shared_part}
use Rattle.tso_core.specs.ThreadTies.{Orders}

pub record MemoryBelow (m n : MemoryMeaning) : Type 0 where
  pub objects : m.objects ≡ n.objects
  pub cells : (x : ℕ) → CellBelow (m.cells x) (n.cells x)

pub data ItemBelow : Item → Item → Type 0 where
  PutBelow : {chunk : Chunk} {addr1 addr2 val1 val2 : Val} → ValBelow addr1 addr2 → ValBelow val1 val2 → ItemBelow (Put chunk addr1 val1) (Put chunk addr2 val2)
  PlaceSame : {base size : ℕ} → ItemBelow (Place base size) (Place base size)
  LiftSame : {base size : ℕ} → ItemBelow (Lift base size) (Lift base size)

abbrev pub ItemsBelow : List Item → List Item → Type 0
ItemsBelow = AllZip ItemBelow

-- neither is wrong
pub record SharedBelow (s1 s2 : Shared) : Type 0 where
  pub memory : MemoryBelow s1.memory s2.memory
  pub buffers : AllZip ItemsBelow s1.buffers s2.buffers
  pub ended : (j : ℕ) → s1.ended j ≡ s2.ended j
  pub now : s1.now ≡ s2.now
  pub right : s2.now ≢ N.Wrong

pub data OfferBelow : Offer → Offer → Type 0 where
  LoadBelow : {chunk : Chunk} {a1 a2 : Val} → ValBelow a1 a2 → OfferBelow (O.Load chunk a1) (O.Load chunk a2)
  StoreBelow : {chunk : Chunk} {a1 a2 v1 v2 : Val} → ValBelow a1 a2 → ValBelow v1 v2 → OfferBelow (O.Store chunk a1 v1) (O.Store chunk a2 v2)
  AtomicBelow : {kind : Atomic} {a1 a2 e1 e2 d1 d2 : Val} → ValBelow a1 a2 → ValBelow e1 e2 → ValBelow d1 d2 → OfferBelow (O.Atomic kind a1 e1 d1) (O.Atomic kind a2 e2 d2)
  MallocBelow : {n1 n2 : Val} → ValBelow n1 n2 → OfferBelow (O.Malloc n1) (O.Malloc n2)
  FreeBelow : {a1 a2 : Val} → ValBelow a1 a2 → OfferBelow (O.Free a1) (O.Free a2)
  StartBelow : {f1 f2 a1 a2 : Val} → ValBelow f1 f2 → ValBelow a1 a2 → OfferBelow (O.Start f1 a1) (O.Start f2 a2)
  ExitBelow : {v1 v2 : Val} → ValBelow v1 v2 → OfferBelow (O.Exit v1) (O.Exit v2)
  SameOffer : {o : Offer} → OfferBelow o o

-- two answers that an offer takes
abbrev pub AnswersBelow : Answer → Answer → Type 0
AnswersBelow Nothing Nothing = Unit {0}
AnswersBelow Nothing (Value w) = ⊥
AnswersBelow (Value v) Nothing = ⊥
AnswersBelow (Value v) (Value w) = ValBelow v w

pub record AnswerBelow (o : Offer) (a1 a2 : Answer) : Type 0 where
  pub below : AnswersBelow a1 a2
  pub takes_first : Takes o a1
  pub takes_second : Takes o a2

abbrev pub orders : Orders shared_part
orders =
    record {
      Below = SharedBelow;
      OpBelow = OfferBelow;
      AnswerBelow = AnswerBelow;
      ArgBelow = λ g1 g2. ValBelow g1.0 g2.0 × ValBelow g1.1 g2.1;
    }
