-- Outside and the chain between two steps of the walk.
use Rattle.std.proofs.Common.{ℕ, zero, suc, ◌≡◌, ◌≤◌, ◌⊎◌, true, false, Option, Some, None, refl, sym, ap}
use Rattle.std.proofs.Common.{◌∙◌, inl, inr, arith}
use Rattle.std.proofs.lemmas.Bool.{cases_Bool, cases_eq, both_ways}
use Rattle.ws_words.specs.Outside.{World}
use Rattle.ws_isa.specs.declared.instr.Op.{Op}
use Rattle.ws_isa.specs.declared.instr.Link.{Link}
use Rattle.ws_isa.specs.declared.instr.Note.{Note}
use Rattle.ws_isa.specs.Image.{Image, instr_at, is_memory, is_load, is_writing, is_memory_op, is_load_op}
use Rattle.ws_isa.specs.Image.{is_writing_op, note_of}
use Rattle.ws_isa.specs.Walk.{Inst, fires}
use Rattle.df_core.specs.Effect.{effect_at}
use Rattle.df_core.specs.Core.{Chain, pass, pass_by}
use Rattle.df_core.specs.Fit.{chain_at, NoWrite, NoOp}
use Rattle.df_core.proofs.Walked.Facts.{WalkFacts}
use Rattle.df_core.proofs.Walked.Effects.{effect_quiet}
use Rattle.ws_isa.proofs.Images.{writing_memory}

load_quiet_op : (o : Op) → is_load_op o ≡ true → is_writing_op o ≡ false
load_quiet_op o e = grind (arith, both_ways)

pub load_quiet : (image : Image) (k : ℕ) → is_load image k ≡ true → is_writing image k ≡ false
unfolding is_writing is_load
load_quiet image k e = load_quiet_op (instr_at image k).op e

load_memory_op : (o : Op) → is_load_op o ≡ true → is_memory_op o ≡ true
load_memory_op o e = grind (arith, both_ways)

pub load_memory : (image : Image) (k : ℕ) → is_load image k ≡ true → is_memory image k ≡ true
unfolding is_memory is_load
load_memory image k e = load_memory_op (instr_at image k).op e

pass_wave_op : (c : Chain) (n : Note) (l : Link) → c.wave ≤ (pass_by c n l).wave
pass_wave_op c n l = grind arith

pub pass_wave : (c : Chain) (n : Note) → c.wave ≤ (pass c n).wave
pass_wave c n = pass_wave_op c n n.succ

module _ (image : Image) (world : World) where
  pub chain_op : (t : ℕ) (x : Inst) → fires image world t ≡ Some x → is_memory image x.instr ≡ true
      → chain_at image world (suc t) ≡ pass (chain_at image world t) (note_of image x.instr)
  unfolding chain_at
  chain_op t x e m = rw (e, m) refl

  pub chain_plain : (t : ℕ) (x : Inst) → fires image world t ≡ Some x → is_memory image x.instr ≡ false
      → chain_at image world (suc t) ≡ chain_at image world t
  unfolding chain_at
  chain_plain t x e m = rw (e, m) refl

  pub chain_none : (t : ℕ) → fires image world t ≡ None → chain_at image world (suc t) ≡ chain_at image world
      t
  unfolding chain_at
  chain_none t e = rw e refl

  -- what the walk's step fires
  pub cases_fires : (t : ℕ) → (fires image world t ≡ None) ⊎ ((x : Inst) × (fires image world t ≡ Some x))
  cases_fires t = go (fires image world t) refl
    where
      go : (o : Option Inst) → fires image world t ≡ o → (fires image world t ≡ None)
          ⊎ ((x : Inst) × (fires image world t ≡ Some x))
      go None e = inl e
      go (Some x) e = inr (x, e)

  pub no_op_no_write : (t u : ℕ) → NoOp image world t u → NoWrite image world t u
  no_op_no_write t u h k x a b e w = h k x a b e (writing_memory image x.instr w)

  chain_same_step : (t u : ℕ) → t ≤ u → NoOp image world t (suc u) → chain_at image world (suc u) ≡ chain_at
      image world u
  chain_same_step t u l h = grind (arith, cases_fires, chain_none, cases_Bool, chain_plain)

  pub chain_same : (t u : ℕ) → t ≤ u → NoOp image world t u → chain_at image world u ≡ chain_at image world t
  chain_same t zero l h = grind arith
  chain_same t (suc u) l h = elim (cases_eq t (suc u)) [
    | inl e ↦ ap (chain_at image world) (sym e)
    | inr n ↦ (let l' : t ≤ u = omega arith in chain_same_step t u l' h
        ∙ chain_same t u l' (λ k x a b. h k x a (omega arith)))
  ]

  pub chain_up : (t u : ℕ) → t ≤ u → (chain_at image world t).wave ≤ (chain_at image world u).wave
  chain_up t zero l = let e : t ≡ zero = omega arith in rw e (omega arith)
  chain_up t (suc u) l = elim (cases_eq t (suc u)) [
    | inl e ↦ rw e (omega arith)
    | inr n ↦ (let r : (chain_at image world t).wave ≤ (chain_at image world u).wave =
        chain_up t u (omega arith) in
        elim (cases_fires u) [
          | inl e ↦ rw (chain_none u e) r
          | inr f ↦ elim (cases_Bool (is_memory image f.0.instr)) [
            | inl m ↦
                rw (chain_op u f.0 f.1 m) (let p : (chain_at image world u).wave
                ≤ (pass (chain_at image world u) (note_of image f.0.instr)).wave =
                pass_wave (chain_at image world u) (note_of image f.0.instr) in omega arith)
            | inr m ↦ rw (chain_plain u f.0 f.1 m) r
          ]
        ])
  ]

  module _ (facts : WalkFacts image world) where
    mem_same_step : (t u : ℕ) → t ≤ u → NoWrite image world t (suc u) → effect_at image world (suc u)
        ≡ effect_at image world u
    mem_same_step t u l h = elim (cases_fires u) [
      | inl e ↦ facts.mem_none u e
      | inr r ↦ elim (cases_Bool (is_memory image r.0.instr)) [
        | inl m ↦ elim (cases_Bool (is_writing image r.0.instr)) [
          | inl w ↦ absurd (h u r.0 l (omega arith) r.1 w)
          | inr w ↦ facts.mem_op u r.0 r.1 m ∙ effect_quiet image world r.0.instr r.0.operands u w
        ]
        | inr m ↦ facts.mem_plain u r.0 r.1 m
      ]
    ]

    pub mem_same : (t u : ℕ) → t ≤ u → NoWrite image world t u → effect_at image world u ≡ effect_at image
        world t
    mem_same t zero l h = let e : t ≡ zero = omega arith in ap (effect_at image world) (sym e)
    mem_same t (suc u) l h = elim (cases_eq t (suc u)) [
      | inl e ↦ ap (effect_at image world) (sym e)
      | inr n ↦ (let l' : t ≤ u = omega arith in mem_same_step t u l' h
          ∙ mem_same t u l' (λ k x a b. h k x a (omega arith)))
    ]
