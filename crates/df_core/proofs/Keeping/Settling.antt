-- The chain passes issued loads that are next, by a list of those that it hasn't passed.
use Rattle.std.proofs.Common.{ℕ, zero, suc, ◌≡◌, ◌<◌, ◌≤◌, true, List, Option, Some, sym, ap, ◌∙◌, subst, inl}
use Rattle.std.proofs.Common.{inr, arith}
use Rattle.std.proofs.lemmas.Bool.{cases_lt, cases_eq}
use Rattle.ws_words.specs.Outside.{Outside, World}
use Rattle.ws_isa.specs.declared.instr.Link.{Link}
use Rattle.ws_isa.specs.declared.instr.Note.{Note}
use Rattle.ws_isa.specs.Image.{Image, is_memory, note_of}
use Rattle.ws_isa.specs.Walk.{Inst, fires}
use Rattle.df_core.specs.Core.{Chain, IsNext, Passes, stays, passes, pass, pass_by, position_after}
use Rattle.df_core.specs.Fit.{FiresAt, chain_at, NoOp, IssuedOp, Ordered}
use Rattle.df_core.specs.Stands.{left_by, left_after, HasEarly, Settles, done, rests, drops, goes}
use Rattle.df_core.specs.Stands.{EarlyIssued}
use Rattle.df_core.proofs.Walked.Facts.{WalkFacts}
use Rattle.df_core.proofs.Walked.Pauses.{chain_same}
use Rattle.df_core.proofs.Keeping.Passing.{ordered_next}
use Rattle.ws_words.specs.Items.{In}

-- the same at one cut
abbrev pub EarlyAt : Image → World → (ℕ → ℕ → Option ℕ) → ℕ → List ℕ → Type 0
EarlyAt image world issued cut early = (w i a t : ℕ) → issued w i ≡ Some a → (x : Inst)
    → FiresAt image world w i t x → is_memory image i ≡ true → cut ≤ t → In i early

module _ (image : Image) (world : World) (facts : WalkFacts image world) where
  -- one instance fires at one step
  pub one_time : (w i t u : ℕ) (x y : Inst) → FiresAt image world w i t x → FiresAt image world w i u y
      → t ≡ u
  one_time w i t u x y a b = facts.once t u x y a.fires b.fires (a.wave ∙ sym b.wave) (a.instr ∙ sym b.instr)

  -- where the chain stands tells how many operations are passed
  no_between : (issued : ℕ → ℕ → Option ℕ) (c : Chain) (m : Outside) (cut other : ℕ)
      → Ordered image world cut issued c m → c ≡ chain_at image world other → (n : ℕ) → n ≤ cut
      → NoOp image world other n
  no_between issued c m cut other o e zero l k y a b fy my = absurd (omega arith)
  no_between issued c m cut other o e (suc n) l k y a b fy my = elim (cases_lt k n) [
    | inl h ↦ no_between issued c m cut other o e n (omega arith) k y a h fy my
    | inr h ↦ (let same : chain_at image world k ≡ chain_at image world other = chain_same image world other k
        a (λ j z p q. no_between issued c m cut other o e n (omega arith) j z p (omega arith)) in
        let wv : y.wave ≡ (chain_at image world cut).wave = facts.turn_wave k y fy my
        ∙ ap (λ (d : Chain). d.wave) (same ∙ sym e ∙ o.chain) in
        let nx : IsNext (chain_at image world cut) (note_of image y.instr) =
        rw (same ∙ sym e ∙ o.chain) at (facts.turn k y fy my) in
        let r : cut ≤ k = facts.only_later cut k y fy my wv nx in
        absurd (omega arith))
  ]

  pub early_any : (issued : ℕ → ℕ → Option ℕ) (c : Chain) (m : Outside) (cut : ℕ) (early : List ℕ)
      → Ordered image world cut issued c m → EarlyAt image world issued cut early
      → HasEarly image world issued c early
  early_any issued c m cut early o h other w i a t e is x at mi l = elim (cases_lt t cut) [
    | inl k ↦
        absurd (no_between issued c m cut other o e cut (omega arith) t x l k at.fires
        (ap (is_memory image) at.instr ∙ mi))
    | inr k ↦ h w i a t is x at mi k
  ]

  link_pass : (c : Chain) (n : Note) (l : Link) (j : ℕ) (early : List ℕ) → In j early
      → ((pass_by c n l).wave ≡ suc c.wave → ⊥) → In j (left_by l early)
  link_pass c n l j early h no' = grind arith

  link_kept : (c : Chain) (n : Note) (l : Link) (j : ℕ) (early : List ℕ) → In j (left_by l early)
      → In j early × ((pass_by c n l).wave ≡ c.wave)
  link_kept c n l j early h = grind arith

  -- what stays unpassed while the operation of step u is passed
  pub pass_early : (issued : ℕ → ℕ → Option ℕ) (c : Chain) (m : Outside) (u i : ℕ) (mid : List ℕ)
      → Ordered image world (suc u) issued (pass c (note_of image i)) m →
      ((w j a t : ℕ) → issued w j ≡ Some a → (x : Inst) → FiresAt image world w j t x
      → is_memory image j ≡ true → suc u ≤ t → In j mid × (w ≡ c.wave)) →
      EarlyAt image world issued (suc u) (left_after (note_of image i) mid)
  pass_early issued c m u i mid o old w j a t e x at mj l =
      let r = old w j a t e x at mj l in
      link_pass c (note_of image i) (note_of image i).succ j mid r.0 (λ up.
      let op : IssuedOp image world (suc u) w j a = o.others w j a e in
      let same : op.time ≡ t = one_time w j op.time t op.inst x op.at at in
      let wv : w ≡ (pass c (note_of image i)).wave = elim op.place [
        | inl h ↦ absurd (omega arith)
        | inr h ↦ sym op.at.wave ∙ h.1.wave ∙ ap (λ (d : Chain). d.wave) (sym o.chain)
      ] in
      let ww : c.wave ≡ suc c.wave = sym r.1 ∙ wv ∙ up in
      omega arith)

  pub pass_issued : (issued : ℕ → ℕ → Option ℕ) (c : Chain) (i : ℕ) (mid : List ℕ) → EarlyIssued issued c mid
      → EarlyIssued issued (pass c (note_of image i)) (left_after (note_of image i) mid)
  pass_issued issued c i mid old j h = grind (arith, link_kept)

  pub record Settled (issued : ℕ → ℕ → Option ℕ) (c d : Chain) (m : Outside) (left : List ℕ) : Type 0 where
    pub passed : Passes image issued c d
    pub cut : ℕ
    pub ordered : Ordered image world cut issued d m
    pub issued_are : EarlyIssued issued d left
    pub early : EarlyAt image world issued cut left

  -- where the first of them is ahead and isn't next, no issued operation is
  rested : (issued : ℕ → ℕ → Option ℕ) (c : Chain) (m : Outside) (cut : ℕ) (early : List ℕ) (i : ℕ)
      → In i early → (IsNext c (note_of image i) → ⊥) → position_after c.last < (note_of image i).seq →
      ((j : ℕ) → In j early → (note_of image i).seq ≤ (note_of image j).seq)
      → Ordered image world cut issued c m → EarlyIssued issued c early
      → EarlyAt image world issued cut early → (j a : ℕ) → issued c.wave j ≡ Some a →
      IsNext c (note_of image j) → ⊥
  rested issued c m cut early i h not_next ahead least o is at j a e nx =
      let op : IssuedOp image world cut c.wave j a = o.others c.wave j a e in
      let mop : is_memory image op.inst.instr ≡ true = ap (is_memory image) op.at.instr ∙ op.memory in
      let wop : op.inst.wave ≡ (chain_at image world cut).wave = op.at.wave
      ∙ ap (λ (d : Chain). d.wave) o.chain in
      let nop : IsNext (chain_at image world cut) (note_of image op.inst.instr) =
      rw (op.at.instr, ← o.chain) nx in
      let from : cut ≤ op.time = facts.only_later cut op.time op.inst op.at.fires mop wop nop in
      let listed : In j early = at c.wave j a op.time e op.inst op.at op.memory from in
      let seen = is i h in
      let first : IssuedOp image world cut c.wave i seen.0 = o.others c.wave i seen.0 seen.1 in
      let mfirst : is_memory image first.inst.instr ≡ true = ap (is_memory image) first.at.instr
      ∙ first.memory in
      let wfirst : first.inst.wave ≡ (chain_at image world cut).wave = first.at.wave
      ∙ ap (λ (d : Chain). d.wave) o.chain in
      let sj : (note_of image op.inst.instr).seq ≡ (note_of image j).seq =
      ap (λ (k : ℕ). (note_of image k).seq) op.at.instr in
      let si : (note_of image first.inst.instr).seq ≡ (note_of image i).seq =
      ap (λ (k : ℕ). (note_of image k).seq) first.at.instr in
      let place : position_after (chain_at image world cut).last ≡ position_after c.last =
      ap (λ (d : Chain). position_after d.last) (sym o.chain) in
      let low : (note_of image i).seq ≤ (note_of image j).seq = least j listed in
      elim (cases_lt first.time cut) [
        | inl l ↦ (let r = facts.behind cut first.time first.inst l first.at.fires mfirst wfirst in
            absurd (omega (arith, r, si, place, ahead)))
        | inr l ↦ elim (cases_lt first.time op.time) [
          | inl k ↦ facts.only_first cut op.time op.inst op.at.fires mop wop nop first.time first.inst l k
              first.at.fires mfirst
          | inr k ↦ elim (cases_eq first.time op.time) [
            | inl q ↦ (let one : Some first.inst ≡ Some op.inst = sym first.at.fires
                ∙ ap (fires image world) q ∙ op.at.fires in
                let inst : first.inst ≡ op.inst = cc in
                let same : j ≡ i = sym op.at.instr ∙ ap (λ (z : Inst). z.instr) (sym inst) ∙ first.at.instr in
                not_next (subst (λ (k : ℕ). IsNext c (note_of image k)) same nx))
            | inr q ↦
                (let up = facts.seq_up op.time first.time op.inst first.inst (omega (arith, k, q)) op.at.fires
                mop first.at.fires mfirst (wop ∙ sym wfirst) in absurd (omega (arith, up, si, sj, low)))
          ]
        ]
      ]

  pub settle : (issued : ℕ → ℕ → Option ℕ) (c d : Chain) (m : Outside) (cut : ℕ) (early left : List ℕ)
      → Settles image c early d left → Ordered image world cut issued c m → EarlyIssued issued c early
      → EarlyAt image world issued cut early → Settled issued c d m left
  settle issued c d m cut early left (done none) o is at = record {
    passed = stays (λ i a e nx.
        let op : IssuedOp image world cut c.wave i a = o.others c.wave i a e in
        let my : is_memory image op.inst.instr ≡ true = ap (is_memory image) op.at.instr ∙ op.memory in
        let wy : op.inst.wave ≡ (chain_at image world cut).wave = op.at.wave
        ∙ ap (λ (d : Chain). d.wave) o.chain in
        let ny : IsNext (chain_at image world cut) (note_of image op.inst.instr) =
        rw (op.at.instr, ← o.chain) nx in
        none i (at c.wave i a op.time e op.inst op.at op.memory
        (facts.only_later cut op.time op.inst op.at.fires my wy ny)) nx);
    cut = cut;
    ordered = o;
    issued_are = is;
    early = at;
  }
  settle issued c d m cut early left (rests i h not_next ahead least) o is at = record {
    passed = stays (rested issued c m cut early i h not_next ahead least o is at);
    cut = cut;
    ordered = o;
    issued_are = is;
    early = at;
  }
  settle issued c d m cut early left (drops mid back forth rest) o is at =
      settle issued c d m cut mid left rest o (λ j k. is j (back j k)) (λ w j a t g x ax mj l.
      elim (forth j (at w j a t g x ax mj l)) [
        | inl low ↦ absurd (
            let op : IssuedOp image world cut w j a = o.others w j a g in
            let same : op.time ≡ t = one_time w j op.time t op.inst x op.at ax in
            let wv : x.wave ≡ (chain_at image world cut).wave = elim op.place [
              | inl k ↦ absurd (omega arith)
              | inr k ↦ ax.wave ∙ sym op.at.wave ∙ k.1.wave
            ] in
            let r = facts.ahead cut t x l ax.fires (ap (is_memory image) ax.instr ∙ mj) wv in
            let sj : (note_of image x.instr).seq ≡ (note_of image j).seq =
            ap (λ (k : ℕ). (note_of image k).seq) ax.instr in
            let place : position_after (chain_at image world cut).last ≡ position_after c.last =
            ap (λ (d : Chain). position_after d.last) (sym o.chain) in
            omega arith)
        | inr k ↦ k
      ])
  settle issued c d m cut early left (goes i mid h nx back forth rest) o is at =
      let e = is i h in
      let r = ordered_next image world facts issued c m cut i e.0 o e.1 nx in
      let s : Settled issued (pass c (note_of image i)) d m left = settle issued (pass c (note_of image i)) d
      m (suc r.0.time) (left_after (note_of image i) mid) left rest r.2
      (pass_issued issued c i mid (λ j k. is j (back j k)))
      (pass_early issued c m r.0.time i mid r.2 (λ w j a t g x ax mj l.
      let op : IssuedOp image world cut w j a = o.others w j a g in
      let same : op.time ≡ t = one_time w j op.time t op.inst x op.at ax in
      let from : cut ≤ r.0.time = r.1 in
      let wv : w ≡ c.wave = elim op.place [
        | inl k ↦ absurd (omega arith)
        | inr k ↦ sym op.at.wave ∙ k.1.wave ∙ ap (λ (d : Chain). d.wave) (sym o.chain)
      ] in (
        elim (forth j (at w j a t g x ax mj (omega arith))) [
          | inl k ↦
              absurd (let b : FiresAt image world w j r.0.time r.0.inst =
              record { fires = r.0.at.fires; wave = r.0.at.wave ∙ sym wv; instr = r.0.at.instr ∙ k } in
              let q : r.0.time ≡ t = one_time w j r.0.time t r.0.inst x b ax in omega arith)
          | inr k ↦ k
        ],
        wv,
      ))) in
      record {
        passed = passes i e.0 e.1 nx s.passed;
        cut = s.cut;
        ordered = s.ordered;
        issued_are = s.issued_are;
        early = s.early;
      }
