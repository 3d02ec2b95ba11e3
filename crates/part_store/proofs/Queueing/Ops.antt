-- Operations on cells: their operands, what they leave outside the cells, and whether they count as issued.
use Rattle.std.proofs.Common.{ℕ, ◌-◌, ◌≡◌, ◌⊎◌, true, false, List, [], ◌∷◌, ◌++◌, Option, Some, None}
use Rattle.std.proofs.Common.{slice_index, refl, sym, ◌∙◌, subst, inl, inr, eqb, eq-eqb, arith}
use Rattle.std.proofs.lemmas.Bool.{both_ways}
use Rattle.ws_words.specs.Outside.{Act, loads, stores, Outside, printed_words}
use Rattle.ws_words.specs.Plain.{took_words}
use Rattle.ws_isa.specs.declared.instr.Op.{Op}
use Rattle.ws_isa.specs.declared.instr.Op.TheVariants.{Load, Store}
use Rattle.ws_isa.specs.Image.{Array, Image, instr_at, array_at, array_of_op, ports, ports_of, is_load}
use Rattle.ws_isa.specs.Image.{is_load_op, is_writing, is_writing_op, is_past, is_past_op, after, after_op}
use Rattle.ws_isa.specs.Image.{answer, answer_op}
use Rattle.ws_isa.specs.Operations.{effect_of, without_loads}
use Rattle.df_core.specs.Effect.{effect_after}
use Rattle.df_core.specs.Core.{Chain, NoneNext, Passes, stays, passes, has}
use Rattle.df_core.proofs.Keeping.Ports.{SameKey, with_key_cases}
use Rattle.df_core.specs.Began.{Began}
use Rattle.df_core.specs.Rights.{operands_of}
use Rattle.df_core.proofs.Parts.Issuing.{printed_alike, took_alike}
use Rattle.store_buf.specs.declared.kept.Kept.{Kept}
use Rattle.store_buf.specs.Requests.{entry_of}
use Rattle.store_buf.specs.Outdoors.{Holding, HoldsOut}
use Rattle.part_store.specs.declared.entry.Queued.{Queued}
use Rattle.part_store.specs.Queues.{holds}
use Rattle.part_store.specs.Contents.{cell, is_on_row, holds_op}
use Rattle.part_store.specs.Parted.{is_store_op}
use Rattle.part_store.specs.Rules.{operands_at, is_past_at}
use Rattle.ws_words.proofs.Acts.{printed_same}
use Rattle.store_buf.proofs.Outside.{took_same as took_quiet}
use Rattle.store_buf.proofs.Stepping.{out_effect}

store_row_op : (op : Op) → is_store_op op ≡ true → is_on_row op (array_of_op op - 1) ≡ true
store_row_op op e = grind arith

store_no_load_op : (op : Op) → is_store_op op ≡ true → is_load_op op ≡ false
store_no_load_op op e = grind arith

store_writes_op : (op : Op) → is_store_op op ≡ true → is_writing_op op ≡ true
store_writes_op op e = grind arith

first_op : (op : Op) (f s : ℕ) → slice_index (operands_of (ports_of op) f s) 0 ≡ f
first_op op f s = grind arith

second_op : (op : Op) (f s : ℕ) → is_store_op op ≡ true → slice_index (operands_of (ports_of op) f s) 1 ≡ s
second_op op f s e = grind arith

past_op : (arrays : List Array) (op : Op) (xs ys : List ℕ) → slice_index xs 0 ≡ slice_index ys 0 →
    is_past_op arrays op xs ≡ is_past_op arrays op ys
past_op arrays op xs ys e = grind arith

module _ (image : Image) where
  pub store_row : (i : ℕ) → is_store_op (instr_at image i).op ≡ true →
      is_on_row (instr_at image i).op (array_at image i - 1) ≡ true
  unfolding array_at
  store_row i e = store_row_op (instr_at image i).op e

  pub cases_row : (es : List Queued) (i j : ℕ) →
      ((is_on_row (instr_at image i).op (array_at image i - 1) ≡ true) ×
      (holds_op es (instr_at image i).op j ≡ holds es (array_at image i - 1) j))
      ⊎ (((r : ℕ) → is_on_row (instr_at image i).op r ≡ false) ×
      (holds_op es (instr_at image i).op j ≡ false))
  unfolding array_at
  cases_row es i j = grind arith

  pub store_no_load : (i : ℕ) → is_store_op (instr_at image i).op ≡ true → is_load image i ≡ false
  unfolding is_load
  store_no_load i e = store_no_load_op (instr_at image i).op e

  pub store_writes : (i : ℕ) → is_store_op (instr_at image i).op ≡ true → is_writing image i ≡ true
  unfolding is_writing
  store_writes i e = store_writes_op (instr_at image i).op e

  pub first_of : (k : Kept) → slice_index (operands_at image k) 0 ≡ k.first
  unfolding ports
  first_of k = first_op (instr_at image k.instr).op k.first k.second

  pub second_of : (k : Kept) → is_store_op (instr_at image k.instr).op ≡ true →
      slice_index (operands_at image k) 1 ≡ k.second
  unfolding ports
  second_of k e = second_op (instr_at image k.instr).op k.first k.second e

  pub past_is : (k : Kept) (xs : List ℕ) → slice_index xs 0 ≡ k.first →
      is_past image k.instr xs ≡ is_past_at image k
  unfolding is_past
  past_is k xs e = past_op image.arrays (instr_at image k.instr).op xs (k.first ∷ []) e

abbrev pub with_cells : Outside → List (List ℕ) → Outside
with_cells o cs = record { cells = cs; input = o.input; left = o.left; acts = o.acts }

one_act : (began : List (Option Began)) (o : Outside) (cs : List (List ℕ)) (h : Holding) (act : Act) →
    printed_words (act ∷ []) ≡ [] → ((slot : ℕ) → took_words slot (act ∷ []) ≡ []) →
    HoldsOut began (with_cells o cs) h →
    HoldsOut began (record {
      cells = cs;
      input = o.input;
      left = o.left;
      acts = without_loads (o.acts ++ act ∷ []);
    }) h
one_act began o cs h act p t is = grind (arith, printed_alike, printed_same, took_alike, took_quiet)

quiet_op : (began : List (Option Began)) (op : Op) (r : ℕ) (xs : List ℕ) (o : Outside) (cs : List (List ℕ))
    (h : Holding) → is_on_row op r ≡ true → HoldsOut began (with_cells o cs) h →
    HoldsOut began (with_cells (effect_of (after_op op xs o)) cs) h
quiet_op began (Load a) r xs o cs h e is =
    one_act began o cs h (loads a (slice_index xs 0)) refl (λ slot. refl) is
quiet_op began (Store a) r xs o cs h e is =
    one_act began o cs h (stores a (slice_index xs 0) (slice_index xs 1)) refl (λ slot. refl) is
quiet_op began _ r xs o cs h e is = absurd (both_ways false refl e)

pub quiet_out : (began : List (Option Began)) (image : Image) (i r : ℕ) (xs : List ℕ) (o : Outside)
    (cs : List (List ℕ)) (h : Holding) → is_on_row (instr_at image i).op r ≡ true →
    HoldsOut began (with_cells o cs) h → HoldsOut began (with_cells (effect_after image i xs o) cs) h
unfolding effect_after after
quiet_out began image i r xs o cs h e is = quiet_op began (instr_at image i).op r xs o cs h e is

pub no_more : {A B : Type 0} (o : Option A) (p : Option B) → has o ≡ has p → p ≡ None → o ≡ None
no_more o p e f = grind arith

pub some_more : {A B : Type 0} (o : Option A) (p : Option B) (b : B) → has o ≡ has p → p ≡ Some b →
    (a : A) × (o ≡ Some a)
some_more o p b e f = grind arith

pub none_next_alike : (image : Image) (f g : ℕ → ℕ → Option ℕ) → ((w i : ℕ) → has (g w i) ≡ has (f w i)) →
    (c : Chain) → NoneNext image f c → NoneNext image g c
none_next_alike image f g same c none i a e nx = grind arith

pub passes_alike : (image : Image) (f g : ℕ → ℕ → Option ℕ) → ((w i : ℕ) → has (g w i) ≡ has (f w i)) →
    (c d : Chain) → Passes image f c d → Passes image g c d
passes_alike image f g same c d (stays none) = stays (none_next_alike image f g same c none)
passes_alike image f g same c d (passes i a e nx rest) =
    let r = some_more (g c.wave i) (f c.wave i) a (same c.wave i) e in
    passes i r.0 r.1 nx (passes_alike image f g same _ d rest)

-- answers of loads and stores
answer_load_op : (op : Op) (r : ℕ) (xs : List ℕ) (o : Outside) → is_on_row op r ≡ true →
    is_store_op op ≡ false → answer_op op xs o ≡ cell o.cells r (slice_index xs 0)
answer_load_op op r xs o e f = grind arith

answer_store_op : (op : Op) (xs : List ℕ) (o : Outside) → is_store_op op ≡ true → answer_op op xs o ≡ 0
answer_store_op op xs o e = grind arith

pub answer_load : (image : Image) (i r : ℕ) (xs : List ℕ) (o : Outside) →
    is_on_row (instr_at image i).op r ≡ true → is_store_op (instr_at image i).op ≡ false →
    answer image i xs o ≡ cell o.cells r (slice_index xs 0)
unfolding answer
answer_load image i r xs o e f = answer_load_op (instr_at image i).op r xs o e f

pub answer_store : (image : Image) (i : ℕ) (xs : List ℕ) (o : Outside) →
    is_store_op (instr_at image i).op ≡ true → answer image i xs o ≡ 0
unfolding answer
answer_store image i xs o e = answer_store_op (instr_at image i).op xs o e

-- a request is found under its instance
pub entry_key : (ks : List Kept) (w i : ℕ) (k : Kept) → entry_of ks w i ≡ Some k → SameKey k.wave k.instr w i
entry_key [] w i k e = absurd (let g : None ≡ Some k = e in cc)
entry_key (x ∷ ks) w i k e = elim (with_key_cases x.wave x.instr (Some x) (entry_of ks) w i) [
  | inl h ↦ (let g : Some x ≡ Some k = sym h.1 ∙ e in let q : x ≡ k = cc in
      subst (λ (y : Kept). SameKey y.wave y.instr w i) q h.0)
  | inr h ↦ entry_key ks w i k (sym h.1 ∙ e)
]

-- the operands that matter, and the cells that don't
abbrev pub three : ℕ → ℕ → List ℕ
three f s = f ∷ s ∷ 0 ∷ []

operands_alike_op : (op : Op) (f s : ℕ) (o : Outside) →
    (answer_op op (operands_of (ports_of op) f s) o ≡ answer_op op (three f s) o) ×
    (after_op op (operands_of (ports_of op) f s) o ≡ after_op op (three f s) o)
operands_alike_op op f s o = grind arith

pub operands_alike : (image : Image) (k : Kept) (o : Outside) →
    (answer_op (instr_at image k.instr).op (operands_at image k) o ≡ answer_op (instr_at image k.instr).op
    (three k.first k.second) o)
    × (after_op (instr_at image k.instr).op (operands_at image k) o ≡ after_op (instr_at image k.instr).op
    (three k.first k.second) o)
unfolding ports
operands_alike image k o = operands_alike_op (instr_at image k.instr).op k.first k.second o

no_cells_op : (op : Op) (xs : List ℕ) (o : Outside) (cs : List (List ℕ)) →
    ((r : ℕ) → is_on_row op r ≡ false) → answer_op op xs (with_cells o cs) ≡ answer_op op xs o
no_cells_op (Load a) xs o cs n = absurd (both_ways (eqb (a - 1) (a - 1)) (n (a - 1))
    (eq-eqb (a - 1) (a - 1) refl))
no_cells_op op xs o cs n = refl

pub no_cells : (image : Image) (i : ℕ) (xs : List ℕ) (o : Outside) (cs : List (List ℕ)) →
    ((r : ℕ) → is_on_row (instr_at image i).op r ≡ false) →
    answer image i xs (with_cells o cs) ≡ answer image i xs o
unfolding answer
no_cells image i xs o cs n = no_cells_op (instr_at image i).op xs o cs n

pub answer_is : (image : Image) (i : ℕ) (xs : List ℕ) (o : Outside) →
    answer image i xs o ≡ answer_op (instr_at image i).op xs o
unfolding answer
answer_is image i xs o = refl

-- what is outside the cells doesn't depend on them
apart_op : (op : Op) (xs : List ℕ) (o : Outside) (cs : List (List ℕ)) →
    effect_of (after_op op xs (with_cells o cs)) ≡ with_cells (effect_of (after_op op xs o))
    (after_op op xs (with_cells o cs)).cells
apart_op op xs o cs = grind arith

pub outside_after : (began : List (Option Began)) (image : Image) (i : ℕ) (xs : List ℕ) (o : Outside)
    (cs : List (List ℕ)) (h : Holding) → HoldsOut began (after_op (instr_at image i).op xs (with_cells o cs))
    h →
    HoldsOut began (with_cells (effect_after image i xs o) h.cells) h
unfolding effect_after after
outside_after began image i xs o cs h is =
    grind (arith, apart_op (instr_at image i).op xs o cs, out_effect _ _ _ is)
