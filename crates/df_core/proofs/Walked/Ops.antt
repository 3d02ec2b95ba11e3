-- The chain along the walk: links and ripples.
use Rattle.std.proofs.Common.{ℕ, zero, suc, ◌+◌, ◌≡◌, ◌<◌, ◌≤◌, ◌⊎◌, true, false, cond, List, [], ◌∷◌, length}
use Rattle.std.proofs.Common.{Option, Some, None, refl, sym, ap, ◌∙◌, inl, inr, arith}
use Rattle.std.proofs.lemmas.Bool.{cases_Bool, cases_eq, cases_lt, both_ways, cond-true, cond-false, lt-ltb}
use Rattle.std.proofs.lemmas.Bool.{le-ltb}
use Rattle.ws_words.specs.Outside.{World}
use Rattle.ws_isa.specs.declared.instr.Op.{Op}
use Rattle.ws_isa.specs.declared.instr.Link.{Link}
use Rattle.ws_isa.specs.declared.instr.Link.TheVariants.{Nothing, Is}
use Rattle.ws_isa.specs.declared.instr.Note.{Note}
use Rattle.ws_isa.specs.Image.{Image, note_of, is_memory, is_memory_op, is_load, is_writing, is_advance}
use Rattle.ws_isa.specs.Image.{is_advance_op, instr_at, first_number, stops, target, is_first, IsBlock}
use Rattle.ws_isa.specs.Walk.{Inst, Pos, pos, opening, fires, is_within, choice, inst_at}
use Rattle.ws_isa.specs.Sound.{InWave, first, turn, edge, last_op, ComesNext, PathEnds, seq, ShapeRules}
use Rattle.ws_isa.specs.Sound.{LinkRules, RippleRules}
use Rattle.df_core.specs.Core.{Chain, NextAfter, IsNext, pass, pass_by, position_after}
use Rattle.df_core.specs.Fit.{chain_at, NoWrite, NoOp}
use Rattle.df_core.proofs.Walked.Pauses.{load_memory, load_quiet, chain_op, chain_plain, chain_none}
use Rattle.df_core.proofs.Walked.Pauses.{cases_fires, chain_same, chain_up}
use Rattle.ws_isa.proofs.Steps.{first_up, first_le, StepCase, stands, turns, ends, leaves, step_case, Place}
use Rattle.ws_isa.proofs.Steps.{place, pos_start, running, Turn, turn_at, inst_wave, inst_instr}
use Rattle.ws_words.specs.Items.{In}
use Rattle.ws_isa.proofs.Images.{writing_memory}

link_cases : (l : Link) → (l ≡ Nothing) ⊎ (l ≡ Nothing → ⊥)
link_cases l = grind arith

pub pass_goes_op : (c : Chain) (n : Note) (l : Link) → (l ≡ Nothing → ⊥)
    → pass_by c n l ≡ record { wave = c.wave; last = Some n }
pass_goes_op c n l h = grind arith

pass_goes : (c : Chain) (n : Note) → (n.succ ≡ Nothing → ⊥)
    → pass c n ≡ record { wave = c.wave; last = Some n }
pass_goes c n h = pass_goes_op c n n.succ h

pass_ends : (c : Chain) (n : Note) → n.succ ≡ Nothing → pass c n ≡ record { wave = suc c.wave; last = None }
pass_ends c n h = ap (λ (l : Link). pass_by c n l) h

-- where the chain stands in wave w after the last operation
abbrev pub chain_of : Image → ℕ → Option ℕ → Chain
chain_of image w None = record { wave = w; last = None }
chain_of image w (Some k) = pass (record { wave = w; last = None }) (note_of image k)

memory_advance_op : (o : Op) → is_memory_op o ≡ true → is_advance_op o ≡ false
memory_advance_op o e = grind (arith, both_ways)

pub memory_advance : (image : Image) (k : ℕ) → is_memory image k ≡ true → is_advance image k ≡ false
unfolding is_memory is_advance
memory_advance image k e = memory_advance_op (instr_at image k).op e

abbrev done_step : Image → Pos → List ℕ → List ℕ
done_step image p ks =
    cond p.over ks
    (cond (is_within image p) (p.next ∷ ks) (cond (is_first image (target image p.block (choice image p))) []
    ks))

-- the instructions that the walk has fired in its wave so far
unfoldable pub done_in : Image → World → ℕ → List ℕ
done_in image world zero = []
done_in image world (suc t) = done_step image (pos image world t) (done_in image world t)

module _ (image : Image) (world : World) where
  abbrev P : ℕ → Pos
  P t = pos image world t

  abbrev L : ℕ → Option ℕ
  L t = last_op image (done_in image world t)

  done_turn : (t : ℕ) → (P t).over ≡ false → (P t).next < first_number image (suc (P t).block)
      → done_in image world (suc t) ≡ (P t).next ∷ done_in image world t
  unfolding done_in
  done_turn t a w = grind (arith, cond-false, cond-true, lt-ltb)

  done_cross : (t : ℕ) → (P t).over ≡ false → first_number image (suc (P t).block) ≤ (P t).next
      → is_first image (target image (P t).block (choice image (P t))) ≡ true
      → done_in image world (suc t) ≡ []
  unfolding done_in
  done_cross t a w f = grind (arith, cond-false, le-ltb, cond-true)

  done_edge : (t : ℕ) → (P t).over ≡ false → first_number image (suc (P t).block) ≤ (P t).next
      → is_first image (target image (P t).block (choice image (P t))) ≡ false
      → done_in image world (suc t) ≡ done_in image world t
  unfolding done_in
  done_edge t a w f = grind (arith, cond-false, le-ltb)

  done_start : done_in image world zero ≡ []
  unfolding done_in
  done_start = refl

  chain_zero : chain_at image world zero ≡ record { wave = 1; last = None }
  unfolding chain_at
  chain_zero = refl

  module _ (shape : ShapeRules image) (links : LinkRules image) where
    end_is : (t : ℕ) → (P t).over ≡ false → first_number image (suc (P t).block) ≤ (P t).next
        → (P t).next ≡ first_number image (suc (P t).block)
    end_is t a w = grind (arith, place)

    -- the walk's path inside its wave
    path_step : (t : ℕ) → (P (suc t)).over ≡ false → StepCase image world t
        → ((P t).over ≡ false → InWave image (P t).block (P t).next (done_in image world t))
        → InWave image (P (suc t)).block (P (suc t)).next (done_in image world (suc t))
    path_step t o (stands a e f) ih = grind (arith, both_ways)
    path_step t o (ends a w s e f) ih = grind (arith, both_ways)
    path_step t o (turns a w e f) ih = rw (done_turn t a w, e) (turn (ih a) w)
    path_step t o (leaves a w s e f) ih =
        elim (cases_Bool (is_first image (target image (P t).block (choice image (P t))))) [
          | inl h ↦
              rw (done_cross t a w h, e)
              (first ((shape.blocks (P t).block (place image world shape t a).block).edges.there
              (choice image (P t)) s) h)
          | inr h ↦ rw (done_edge t a w h, e) (edge (ih a) (end_is t a w) s (choice image (P t)) h)
        ]

    path_zero : InWave image (P zero).block (P zero).next (done_in image world zero)
    unfolding opening is_first
    path_zero = rw (done_start, pos_start image world shape) (first shape.has_block refl)

    pub wave_path : (t : ℕ) → (P t).over ≡ false → InWave image (P t).block (P t).next (done_in image world t)
    wave_path zero o = path_zero
    wave_path (suc t) o = path_step t o (step_case image world t) (λ h. wave_path t h)

    pub follows : (t : ℕ) (x : Inst) → fires image world t ≡ Some x → is_memory image x.instr ≡ true
        → ComesNext image (L t) x.instr
    follows t x fx m = let k : Turn image world shape t x = turn_at image world shape t x fx in
        grind (arith, inst_instr, wave_path)

    -- the wave of the chain after an operation that another follows
    chain_wave : (w : ℕ) (l : Option ℕ) (k : ℕ) → ComesNext image l k → (chain_of image w l).wave ≡ w
    chain_wave w None k f = refl
    chain_wave w (Some j) k f =
        ap (λ (c : Chain). c.wave) (pass_goes (record { wave = w; last = None }) (note_of image j)
        (λ e. links.succ_ends j k e f))

    pass_same : (c d : Chain) (n : Note) (l : Link) → c.wave ≡ d.wave → pass_by c n l ≡ pass_by d n l
    pass_same c d n l e = grind arith

    chain_cross : (w : ℕ) (l : Option ℕ) → PathEnds image l → chain_of image w l
        ≡ record { wave = suc w; last = None }
    chain_cross w l f = grind (arith, links.some_op, pass_ends, links.last_succ)

    chain_step : (t : ℕ) → (P (suc t)).over ≡ false → StepCase image world t
        → ((P t).over ≡ false → chain_at image world t ≡ chain_of image (P t).wave (L t))
        → chain_at image world (suc t) ≡ chain_of image (P (suc t)).wave (L (suc t))
    chain_step t o (stands a e f) ih = grind (arith, both_ways)
    chain_step t o (ends a w s e f) ih = grind (arith, both_ways)
    chain_step t o (turns a w e f) ih =
        let wv : (P t).wave ≡ (P (suc t)).wave = ap (λ (p : Pos). p.wave) (sym e) in
        let ld : L (suc t) ≡ cond (is_memory image (P t).next) (Some (P t).next) (L t) =
        ap (last_op image) (done_turn t a w) in
        elim (cases_Bool (is_memory image (P t).next)) [
          | inl m ↦ (let fl : ComesNext image (L t) (P t).next = follows t (inst_at image (P t)) f m in
              chain_op image world t (inst_at image (P t)) f m
              ∙ ap (λ (c : Chain). pass c (note_of image (P t).next)) (ih a)
              ∙ pass_same (chain_of image (P t).wave (L t)) (record { wave = (P (suc t)).wave; last = None })
              (note_of image (P t).next) (note_of image (P t).next).succ
              (chain_wave (P t).wave (L t) (P t).next fl ∙ wv)
              ∙ ap (chain_of image (P (suc t)).wave)
              (sym (ld ∙ cond-true (is_memory image (P t).next) _ _ m)))
          | inr m ↦ chain_plain image world t (inst_at image (P t)) f m ∙ ih a
              ∙ ap (λ (n : ℕ). chain_of image n (L t)) wv ∙ ap (chain_of image (P (suc t)).wave)
              (sym (ld ∙ cond-false (is_memory image (P t).next) _ _ m))
        ]
    chain_step t o (leaves a w s e f) ih =
        let wv : (P (suc t)).wave ≡ cond (is_first image (target image (P t).block (choice image (P t))))
        (suc (P t).wave) (P t).wave = ap (λ (p : Pos). p.wave) e in
        elim (cases_Bool (is_first image (target image (P t).block (choice image (P t))))) [
          | inl h ↦
              (let en : PathEnds image (L t) = record {
                block = (P t).block;
                next = (P t).next;
                done = done_in image world t;
                path = wave_path t a;
                at_end = end_is t a w;
                out = inr (s, (choice image (P t), h));
                last_is = refl;
              } in
              chain_none image world t f ∙ ih a ∙ chain_cross (P t).wave (L t) en
              ∙ ap (λ (n : ℕ). chain_of image n None)
              (sym (wv ∙ cond-true (is_first image (target image (P t).block (choice image (P t)))) _ _
              h))
              ∙ ap (λ (ks : List ℕ). chain_of image (P (suc t)).wave (last_op image ks))
              (sym (done_cross t a w h)))
          | inr h ↦ chain_none image world t f ∙ ih a ∙ ap (λ (n : ℕ). chain_of image n (L t))
              (sym (wv ∙ cond-false (is_first image (target image (P t).block (choice image (P t)))) _ _ h))
              ∙ ap (λ (ks : List ℕ). chain_of image (P (suc t)).wave (last_op image ks))
              (sym (done_edge t a w h))
        ]

    chain_first : chain_at image world zero ≡ chain_of image (P zero).wave (L zero)
    unfolding opening is_first
    chain_first = grind (arith, chain_zero, chain_of, pos_start, done_start)

    pub chain_is : (t : ℕ) → (P t).over ≡ false → chain_at image world t ≡ chain_of image (P t).wave (L t)
    chain_is zero o = chain_first
    chain_is (suc t) o = chain_step t o (step_case image world t) (λ h. chain_is t h)

    op_over : (t : ℕ) (x : Inst) → fires image world t ≡ Some x → (P t).over ≡ false
    op_over t x fx = (turn_at image world shape t x fx).over

    op_wave : (t : ℕ) (x : Inst) → fires image world t ≡ Some x → is_memory image x.instr ≡ true
        → x.wave ≡ (P t).wave
    op_wave t x fx m = inst_wave image world shape t x fx ∙ cond-false (is_advance image x.instr) _ _
        (memory_advance image x.instr m)

    pub turn_wave : (t : ℕ) (x : Inst) → fires image world t ≡ Some x → is_memory image x.instr ≡ true
        → x.wave ≡ (chain_at image world t).wave
    turn_wave t x fx m = op_wave t x fx m ∙ sym (ap (λ (c : Chain). c.wave) (chain_is t (op_over t x fx))
        ∙ chain_wave (P t).wave (L t) x.instr (follows t x fx m))

    next_after : (w : ℕ) (l : Option ℕ) (k : ℕ) → ComesNext image l k → NextAfter (chain_of image w l).last
        (note_of image k)
    next_after w None k f = links.first_pred k f
    next_after w (Some j) k f =
        rw (pass_goes (record { wave = w; last = None }) (note_of image j) (λ e. links.succ_ends j k e f))
        (links.linked j k f)

    pub turn_next : (t : ℕ) (x : Inst) → fires image world t ≡ Some x → is_memory image x.instr ≡ true
        → IsNext (chain_at image world t) (note_of image x.instr)
    turn_next t x fx m = grind (arith, chain_is, op_over, next_after, x.instr, follows)

    rise_of : (w : ℕ) (l : Option ℕ) (k : ℕ) → ComesNext image l k → position_after (chain_of image w l).last
        < seq image k
    rise_of w None k f = links.positive k None f
    rise_of w (Some j) k f =
        rw (pass_goes (record { wave = w; last = None }) (note_of image j) (λ e. links.succ_ends j k e f))
        (links.rise j k f)

    pub rise_at : (t : ℕ) (x : Inst) → fires image world t ≡ Some x → is_memory image x.instr ≡ true
        → position_after (chain_at image world t).last < seq image x.instr
    rise_at t x fx m = rw (chain_is t (op_over t x fx)) (rise_of (P t).wave (L t) x.instr (follows t x fx m))

    -- after an operation, while the chain stays in its wave
    passed_goes : (t : ℕ) (x : Inst) → fires image world t ≡ Some x → is_memory image x.instr ≡ true
        → (chain_at image world (suc t)).wave ≡ (chain_at image world t).wave →
        chain_at image world (suc t) ≡ record {
          wave = (chain_at image world t).wave;
          last = Some (note_of image x.instr);
        }
    passed_goes t x fx m e = elim (link_cases (note_of image x.instr).succ) [
      | inl n ↦ (let g : (chain_at image world (suc t)).wave ≡ suc (chain_at image world t).wave =
          ap (λ (c : Chain). c.wave) (chain_op image world t x fx m ∙ pass_ends (chain_at image world t)
          (note_of image x.instr) n) in absurd (omega arith))
      | inr n ↦ chain_op image world t x fx m ∙ pass_goes (chain_at image world t) (note_of image x.instr) n
    ]

    pos_step : (u : ℕ) → (chain_at image world (suc u)).wave ≡ (chain_at image world u).wave
        → position_after (chain_at image world u).last ≤ position_after (chain_at image world (suc u)).last
    pos_step u e = elim (cases_fires image world u) [
      | inl f ↦ rw (chain_none image world u f) (omega arith)
      | inr r ↦ elim (cases_Bool (is_memory image r.0.instr)) [
        | inl m ↦ (let g : position_after (chain_at image world (suc u)).last ≡ seq image r.0.instr =
            ap (λ (c : Chain). position_after c.last) (passed_goes u r.0 r.1 m e) in
            let h : position_after (chain_at image world u).last < seq image r.0.instr =
            rise_at u r.0 r.1 m in omega arith)
        | inr m ↦ rw (chain_plain image world u r.0 r.1 m) (omega arith)
      ]
    ]

    pub pos_up : (t u : ℕ) → t ≤ u → (chain_at image world u).wave ≡ (chain_at image world t).wave
        → position_after (chain_at image world t).last ≤ position_after (chain_at image world u).last
    pos_up t zero l e = let z : t ≡ zero = omega arith in rw z (omega arith)
    pos_up t (suc u) l e = elim (cases_eq t (suc u)) [
      | inl z ↦ rw z (omega arith)
      | inr n ↦ (let a : (chain_at image world t).wave ≤ (chain_at image world u).wave = chain_up image world
          t u (omega arith) in
          let b : (chain_at image world u).wave ≤ (chain_at image world (suc u)).wave =
          chain_up image world u (suc u) (omega arith) in
          let c : (chain_at image world u).wave ≡ (chain_at image world t).wave = omega arith in
          let d : (chain_at image world (suc u)).wave ≡ (chain_at image world u).wave = omega arith in
          let p : position_after (chain_at image world t).last ≤ position_after
          (chain_at image world u).last = pos_up t u (omega arith) c in
          let q : position_after (chain_at image world u).last ≤ position_after
          (chain_at image world (suc u)).last = pos_step u d in
          omega arith)
    ]

    -- a passed operation's number is at most the position, while the chain is in its wave
    pub reach : (k u : ℕ) (z : Inst) → fires image world k ≡ Some z → is_memory image z.instr ≡ true → k < u
        → (chain_at image world u).wave ≡ z.wave → seq image z.instr ≤ position_after
        (chain_at image world u).last
    reach k u z fz mz l e =
        let a : z.wave ≡ (chain_at image world k).wave = turn_wave k z fz mz in
        let b : (chain_at image world k).wave ≤ (chain_at image world (suc k)).wave =
        chain_up image world k (suc k) (omega arith) in
        let c : (chain_at image world (suc k)).wave ≤ (chain_at image world u).wave =
        chain_up image world (suc k) u l in
        let d : (chain_at image world (suc k)).wave ≡ (chain_at image world k).wave = omega arith in
        let g : position_after (chain_at image world (suc k)).last ≡ seq image z.instr =
        ap (λ (c : Chain). position_after c.last) (passed_goes k z fz mz d) in
        let h : position_after (chain_at image world (suc k)).last ≤ position_after
        (chain_at image world u).last = pos_up (suc k) u l (omega arith) in
        omega arith

    -- sequence numbers rise along the walk, inside a wave
    pub seq_up : (t u : ℕ) (x y : Inst) → t < u → fires image world t ≡ Some x
        → is_memory image x.instr ≡ true → fires image world u ≡ Some y → is_memory image y.instr ≡ true
        → x.wave ≡ y.wave → seq image x.instr < seq image y.instr
    seq_up t u x y l fx mx fy my same =
        let e : (chain_at image world u).wave ≡ x.wave = sym (same ∙ turn_wave u y fy my) in
        let a : seq image x.instr ≤ position_after (chain_at image world u).last = reach t u x fx mx l e in
        let b : position_after (chain_at image world u).last < seq image y.instr = rise_at u y fy my in
        omega arith

    -- an operation that names a successor is followed by one
    goes_on : (d b k j n : ℕ) (done : List ℕ) → InWave image b k done → IsBlock image b
        → k ≤ first_number image (suc b) → last_op image done ≡ Some j → (note_of image j).succ ≡ Is n →
        first_number image (suc (length image.blocks)) + length image.blocks < d + (k + b)
        → (m : ℕ) × ComesNext image (Some j) m
    goes_on zero b k j n done p bk hi la e f = grind (arith, first_le)
    goes_on (suc d) b k j n done p bk hi la e f = elim (cases_lt k (first_number image (suc b))) [
      | inl w ↦ elim (cases_Bool (is_memory image k)) [
        | inl m ↦ (k, record { block = b; done = done; path = p; within = w; memory = m; last_is = la })
        | inr m ↦ goes_on d b (suc k) j n (k ∷ done) (turn p w) bk w (cond-false (is_memory image k) _ _ m
            ∙ la) e (omega arith)
      ]
      | inr w ↦ (let at : k ≡ first_number image (suc b) = omega arith in
          elim (cases_Bool (stops image b)) [
            | inl s ↦
                absurd (links.succ_goes_on j n e
                (record {
                  block = b;
                  next = k;
                  done = done;
                  path = p;
                  at_end = at;
                  out = inl s;
                  last_is = la;
                }))
            | inr s ↦ elim (cases_Bool (is_first image (target image b 0))) [
              | inl h ↦
                  absurd (links.succ_goes_on j n e
                  (record {
                    block = b;
                    next = k;
                    done = done;
                    path = p;
                    at_end = at;
                    out = inr (s, (0, h));
                    last_is = la;
                  }))
              | inr h ↦ (let lt : b < target image b 0 = ((shape.blocks b bk).edges.later 0 s h).0 in
                  let fl : first_number image (suc b) ≤ first_number image (target image b 0) =
                  first_le image (suc b) (target image b 0) lt in
                  goes_on d (target image b 0) (first_number image (target image b 0)) j n done
                  (edge p at s 0 h) ((shape.blocks b bk).edges.there 0 s)
                  (first_up image (target image b 0)) la e (omega arith))
            ]
          ])
    ]

    -- a named successor comes later
    succ_up : (t n : ℕ) (x : Inst) → fires image world t ≡ Some x → is_memory image x.instr ≡ true
        → (note_of image x.instr).succ ≡ Is n → seq image x.instr < n
    succ_up t n x fx m e =
        let k : Turn image world shape t x = turn_at image world shape t x fx in
        let pl : Place image (P t) = place image world shape t k.over in
        let i : x.instr ≡ (P t).next = inst_instr image world shape t x fx in
        let m' : is_memory image (P t).next ≡ true = ap (is_memory image) (sym i) ∙ m in
        let e' : (note_of image (P t).next).succ ≡ Is n = ap (λ (y : ℕ). (note_of image y).succ) (sym i)
        ∙ e in
        let r = goes_on (suc (first_number image (suc (length image.blocks)) + length image.blocks))
        (P t).block (suc (P t).next) (P t).next n ((P t).next ∷ done_in image world t)
        (turn (wave_path t k.over) k.within) pl.block k.within
        (cond-true (is_memory image (P t).next) _ _ m') e' (omega arith) in
        let s : seq image r.0 ≡ n = links.succ_is (P t).next r.0 n e' r.1 in
        let g : seq image (P t).next < seq image r.0 = links.rise (P t).next r.0 r.1 in
        let h : seq image x.instr ≡ seq image (P t).next = ap (seq image) i in
        omega arith

    -- a named predecessor comes earlier
    pred_of : (l : Option ℕ) (k n : ℕ) → ComesNext image l k → (note_of image k).pred ≡ Is n
        → (j : ℕ) × (l ≡ Some j) × (seq image j ≡ n) × (n < seq image k)
    pred_of None k n f e = absurd (links.pred_is_some k n e f)
    pred_of (Some j) k n f e = let s : seq image j ≡ n = links.pred_is j k n e f in
        let r : seq image j < seq image k = links.rise j k f in (j, refl, s, omega arith)

    -- the last operation of the chain is one that fired
    pub record LastIs (t : ℕ) (m : Note) : Type 0 where
      pub time : ℕ
      pub inst : Inst
      pub fires : fires image world time ≡ Some inst
      pub memory : is_memory image inst.instr ≡ true
      pub note : m ≡ note_of image inst.instr

    last_step : (c : Chain) (n m : Note) (l : Link) → (pass_by c n l).last ≡ Some m → m ≡ n
    last_step c n m l e = grind arith

    last_at : (t : ℕ) (m : Note) → (chain_at image world t).last ≡ Some m → LastIs t m
    last_at zero m e = grind (arith, chain_zero)
    last_at (suc t) m e = go (cases_fires image world t) (λ h. last_at t m h)
      where
        go : (fires image world t ≡ None) ⊎ ((x : Inst) × (fires image world t ≡ Some x))
            → ((chain_at image world t).last ≡ Some m → LastIs t m) → LastIs (suc t) m
        go (inl f) ih = grind (arith, chain_none)
        go (inr f) ih = elim (cases_Bool (is_memory image f.0.instr)) [
          | inl b ↦ record {
            time = t;
            inst = f.0;
            fires = f.1;
            memory = b;
            note = last_step (chain_at image world t) (note_of image f.0.instr) m
                (note_of image f.0.instr).succ
                (ap (λ (c : Chain). c.last) (sym (chain_op image world t f.0 f.1 b)) ∙ e);
          }
          | inr b ↦
              (let r = ih (ap (λ (c : Chain). c.last) (sym (chain_plain image world t f.0 f.1 b)) ∙ e) in
              record { time = r.time; inst = r.inst; fires = r.fires; memory = r.memory; note = r.note })
        ]

    -- what is next was not passed
    not_passed : (t u : ℕ) (y : Inst) (l : Option Note) → (chain_at image world t).last ≡ l
        → fires image world u ≡ Some y → is_memory image y.instr ≡ true → NextAfter l (note_of image y.instr)
        → seq image y.instr ≤ position_after l → ⊥
    not_passed t u y None e fy my nx le = let p : 1 ≤ seq image y.instr =
        links.positive y.instr (L u) (follows u y fy my) in omega arith
    not_passed t u y (Some m) e fy my (inl nx) le =
        let z : LastIs t m = last_at t m e in
        let s : (note_of image z.inst.instr).succ ≡ Is (seq image y.instr) =
        ap (λ (n : Note). n.succ) (sym z.note) ∙ nx in
        let g : seq image z.inst.instr < seq image y.instr = succ_up z.time (seq image y.instr) z.inst z.fires
        z.memory s in
        let h : m.seq ≡ seq image z.inst.instr = ap (λ (n : Note). n.seq) z.note in
        omega arith
    not_passed t u y (Some m) e fy my (inr nx) le = let r = pred_of (L u) y.instr m.seq (follows u y fy my)
        nx in omega (arith, r.3)

    pub only_later : (t u : ℕ) (y : Inst) → fires image world u ≡ Some y → is_memory image y.instr ≡ true
        → y.wave ≡ (chain_at image world t).wave → IsNext (chain_at image world t) (note_of image y.instr)
        → t ≤ u
    only_later t u y fy my w nx = grind (arith, cases_lt, not_passed, reach)

    -- the position before an operation
    position_of : (w : ℕ) (j k : ℕ) → ComesNext image (Some j) k
        → position_after (chain_of image w (Some j)).last ≡ seq image j
    position_of w j k f = ap (λ (c : Chain). position_after c.last)
        (pass_goes (record { wave = w; last = None }) (note_of image j) (λ e. links.succ_ends j k e f))

    last_of : (w : ℕ) (j k : ℕ) → ComesNext image (Some j) k → (chain_of image w (Some j)).last
        ≡ Some (note_of image j)
    last_of w j k f =
        ap (λ (c : Chain). c.last) (pass_goes (record { wave = w; last = None }) (note_of image j)
        (λ e. links.succ_ends j k e f))

    -- z fires first, y later in the same wave; y is not next where z is
    clash : (c d : Chain) (zi yi w v : ℕ) (lz ly : Option ℕ) → ComesNext image lz zi → ComesNext image ly yi
        → c ≡ chain_of image w lz → d ≡ chain_of image v ly →
        position_after c.last < seq image zi → seq image zi ≤ position_after d.last
        → position_after d.last < seq image yi →
        (l : Option Note) → c.last ≡ l → NextAfter l (note_of image yi) → ⊥
    clash c d zi yi w v lz None fz fy ec ed a b e l el nx = grind arith
    clash c d zi yi w v lz (Some j) fz fy ec ed a b e None el nx = links.pred_none j yi nx fy
    clash c d zi yi w v None (Some j) fz fy ec ed a b e (Some m) el (inl nx) = grind arith
    clash c d zi yi w v (Some i) (Some j) fz fy ec ed a b e (Some m) el (inl nx) =
        let g : Some (note_of image i) ≡ Some m = sym (ap (λ (x : Chain). x.last) ec ∙ last_of w i zi fz)
        ∙ el in
        let h : note_of image i ≡ m = cc in
        let s : seq image zi ≡ seq image yi = links.succ_is i zi (seq image yi)
        (ap (λ (n : Note). n.succ) h ∙ nx) fz in
        omega arith
    clash c d zi yi w v lz (Some j) fz fy ec ed a b e (Some m) el (inr nx) =
        let s : seq image j ≡ m.seq = links.pred_is j yi m.seq nx fy in
        let g : position_after d.last ≡ seq image j = ap (λ (x : Chain). position_after x.last) ed
        ∙ position_of v j yi fy in
        let h : position_after c.last ≡ m.seq = ap position_after el in
        omega arith

    only_up : (t u : ℕ) (y : Inst) → fires image world u ≡ Some y → is_memory image y.instr ≡ true
        → y.wave ≡ (chain_at image world t).wave → IsNext (chain_at image world t) (note_of image y.instr) →
        (n : ℕ) → n ≤ u → NoOp image world t n
    only_up t u y fy my w nx zero le k z a b fz mz = absurd (omega arith)
    only_up t u y fy my w nx (suc n) le k z a b fz mz = elim (cases_lt k n) [
      | inl l ↦ only_up t u y fy my w nx n (omega arith) k z a l fz mz
      | inr l ↦ (let kn : k ≡ n = omega arith in
          let quiet : NoOp image world t k = λ k' z' a' b'. only_up t u y fy my w nx n (omega arith) k' z' a'
          (omega arith) in
          let ce : chain_at image world k ≡ chain_at image world t = chain_same image world t k a quiet in
          let zw : z.wave ≡ (chain_at image world k).wave = turn_wave k z fz mz in
          let yw : y.wave ≡ (chain_at image world u).wave = turn_wave u y fy my in
          let cw : (chain_at image world k).wave ≡ (chain_at image world t).wave =
          ap (λ (c : Chain). c.wave) ce in
          let nx' : NextAfter (chain_at image world k).last (note_of image y.instr) = rw ce nx in
          clash (chain_at image world k) (chain_at image world u) z.instr y.instr (P k).wave (P u).wave (L k)
          (L u) (follows k z fz mz) (follows u y fy my)
          (chain_is k (op_over k z fz)) (chain_is u (op_over u y fy)) (rise_at k z fz mz)
          (reach k u z fz mz (omega arith) (omega arith)) (rise_at u y fy my)
          (chain_at image world k).last refl nx')
    ]

    pub only_first : (t u : ℕ) (y : Inst) → fires image world u ≡ Some y → is_memory image y.instr ≡ true
        → y.wave ≡ (chain_at image world t).wave → IsNext (chain_at image world t) (note_of image y.instr)
        → NoOp image world t u
    only_first t u y fy my w nx = only_up t u y fy my w nx u (omega arith)

    -- what fired earlier in the wave is on the path
    wave_step : (t : ℕ) → (P (suc t)).over ≡ false → StepCase image world t → (P t).wave ≤ (P (suc t)).wave
    wave_step t o h = grind (arith, both_ways)

    wave_up : (t u : ℕ) → t ≤ u → (P u).over ≡ false → (P t).wave ≤ (P u).wave
    wave_up t zero l o = let z : t ≡ zero = omega arith in rw z (omega arith)
    wave_up t (suc u) l o = elim (cases_eq t (suc u)) [
      | inl z ↦ rw z (omega arith)
      | inr n ↦
          (let a : (P t).wave ≤ (P u).wave = wave_up t u (omega arith) (running image world shape u o) in
          let b : (P u).wave ≤ (P (suc u)).wave = wave_step u o (step_case image world u) in omega arith)
    ]

    among_step : (k u : ℕ) (z : Inst) → fires image world k ≡ Some z → k < suc u → (P (suc u)).over ≡ false
        → (P (suc u)).wave ≡ (P k).wave → StepCase image world u →
        (k < u → (P u).over ≡ false → (P u).wave ≡ (P k).wave → In z.instr (done_in image world u))
        → In z.instr (done_in image world (suc u))
    among_step k u z fz l o e (stands a p f) ih = grind (arith, both_ways)
    among_step k u z fz l o e (ends a w s p f) ih = grind (arith, both_ways)
    among_step k u z fz l o e (turns a w p f) ih = grind (arith, done_turn, cases_eq, inst_instr)
    among_step k u z fz l o e (leaves a w s p f) ih =
        grind (arith, wave_up, cases_Bool, cond-true, done_edge, cond-false)

    among : (k u : ℕ) (z : Inst) → fires image world k ≡ Some z → k < u → (P u).over ≡ false
        → (P u).wave ≡ (P k).wave → In z.instr (done_in image world u)
    among k zero z fz l o e = absurd (omega arith)
    among k (suc u) z fz l o e = among_step k u z fz l o e (step_case image world u)
        (λ l' o' e'. among k u z fz l' o' e')

    pub rippled : RippleRules image → (t u : ℕ) (y : Inst) → t ≤ u → fires image world u ≡ Some y
        → is_load image y.instr ≡ true → y.wave ≡ (chain_at image world t).wave →
        (note_of image y.instr).ripple ≤ position_after (chain_at image world t).last
        → NoWrite image world t u
    rippled ripples t u y l fy ly yw le k z a b fz wz =
        let mz : is_memory image z.instr ≡ true = writing_memory image z.instr wz in
        let my : is_memory image y.instr ≡ true = load_memory image y.instr ly in
        let zw : z.wave ≡ (chain_at image world k).wave = turn_wave k z fz mz in
        let yw' : y.wave ≡ (chain_at image world u).wave = turn_wave u y fy my in
        let up1 : (chain_at image world t).wave ≤ (chain_at image world k).wave =
        chain_up image world t k a in
        let up2 : (chain_at image world k).wave ≤ (chain_at image world u).wave =
        chain_up image world k u (omega arith) in
        let zp : z.wave ≡ (P k).wave = op_wave k z fz mz in
        let yp : y.wave ≡ (P u).wave = op_wave u y fy my in
        let o : (P u).over ≡ false = op_over u y fy in
        let am : In z.instr (done_in image world u) = among k u z fz b o (omega arith) in
        let i : y.instr ≡ (P u).next = inst_instr image world shape u y fy in
        let r : seq image z.instr ≤ (note_of image (P u).next).ripple =
        ripples.above (P u).block (P u).next z.instr (done_in image world u) (wave_path u o)
        (turn_at image world shape u y fy).within
        (ap (is_memory image) (sym i) ∙ my) (ap (is_writing image) (sym i) ∙ load_quiet image y.instr ly) am
        wz in
        let re : (note_of image y.instr).ripple ≡ (note_of image (P u).next).ripple =
        ap (λ (n : ℕ). (note_of image n).ripple) i in
        let p : position_after (chain_at image world t).last ≤ position_after (chain_at image world k).last =
        pos_up t k a (omega arith) in
        let q : position_after (chain_at image world k).last < seq image z.instr = rise_at k z fz mz in
        omega arith
