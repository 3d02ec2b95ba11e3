-- One block of a wave.
use Rattle.std.proofs.Common.{ℕ, zero, suc, ◌+◌, ◌≡◌, ◌<◌, ◌≤◌, ◌⊎◌, Bool, true, false, ◌&&◌, List, ◌∷◌}
use Rattle.std.proofs.Common.{length, map, get_or, Option, Some, None, refl, sym, ap, ◌∙◌, inl, inr, subst}
use Rattle.std.proofs.Common.{arith, eqb, eq-eqb, ne_eqb}
use Rattle.std.proofs.lemmas.Bool.{cases_eq, cases_Bool, cases_lt, lt-ltb}
use Rattle.ws_isa.specs.View as view
use Rattle.ws_isa.specs.declared.instr.Instr.{Instr as CodeInstr}
use Rattle.ws_isa.specs.declared.instr.Link.{Link}
use Rattle.ws_isa.specs.declared.instr.Link.TheVariants.{Is}
use Rattle.ws_isa.specs.declared.instr.Note.{Note}
use Rattle.ws_isa.specs.Image.{Instr, Image, no_note, instr_at, block_at, first_number, size_of, is_memory}
use Rattle.ws_isa.specs.Image.{is_memory_op, is_writing, is_writing_op, note_of, IsIn, IsBlock}
use Rattle.ws_isa.specs.Sound.{last_op, ComesNext, seq}
use Rattle.annot_check.specs.declared.fault.Bad.{Bad}
use Rattle.annot_check.specs.declared.fault.CheckFault.{CheckFault}
use Rattle.annot_check.specs.declared.fault.CheckFault.TheVariants.{Refused, NoMemory}
use Rattle.annot_check.specs.declared.lasts.Mark.{Mark}
use Rattle.annot_check.specs.declared.lasts.Lasts.{Lasts}
use Rattle.annot_check.specs.LinkBreaches.{LinkBreach, not_positive, twice, pair, first, RippleBreach}
use Rattle.annot_check.specs.LinkBreaches.{not_own, below, Disagree, falls, other_succ, other_pred}
use Rattle.annot_check.specs.Order.{joined, agrees, Comes, ComesWith, ComesBy, MarkIs, LastsOk, PassOk}
use Rattle.annot_check.specs.Order.{PassBad, low, start, top, other, odd, own, above, after, passed, GoodPass}
use Rattle.annot_check.specs.Order.{out_of}
use Rattle.annot_check.specs.Seen.{CameWith, SeenOk, ApartBelow, OrderBreach, mark_of, stepped, broken}
use Rattle.annot_check.specs.Seen.{repeated, StepBad, StepSeen, CameAll, PassState}
use Rattle.annot_check.proofs.Shaped.Blocks.{whole}
use Rattle.annot_check.proofs.Chained.Kept.{blank_is}
use Rattle.annot_check.proofs.Chained.Waves.{after_ok}
use Rattle.ws_words.specs.Items.{nth, or_else}
use Rattle.ws_words.proofs.Options.{some_same}
use Rattle.ws_isa.proofs.Steps.{first_le}

-- what the code reads of an instruction
note_read : (image : Image) (k : ℕ) (i : Instr) → instr_at image k ≡ i →
    note_of image k ≡ or_else i.note no_note
unfolding note_of
note_read image k i e = ap (λ (x : Instr). or_else x.note no_note) e

memory_read : (image : Image) (k : ℕ) (i : Instr) → instr_at image k ≡ i →
    is_memory image k ≡ is_memory_op i.op
unfolding is_memory
memory_read image k i e = ap (λ (x : Instr). is_memory_op x.op) e

writing_read : (image : Image) (k : ℕ) (i : Instr) → instr_at image k ≡ i →
    is_writing image k ≡ is_writing_op i.op
unfolding is_writing
writing_read image k i e = ap (λ (x : Instr). is_writing_op x.op) e

after_read : (image : Image) (k : ℕ) (i : Instr) (l : Lasts) → instr_at image k ≡ i →
    after image k l ≡ stepped l k i
unfolding note_of is_memory is_writing
after_read image k i l e = ap (stepped l k) e

nth_read : (is : List CodeInstr) (n : ℕ) (x : CodeInstr) → n < length is → x ≡ get_or is n x →
    nth (map view.instr is) n ≡ Some (view.instr x)
nth_read (y ∷ is) (suc n) x l e = nth_read is n x (omega arith) e
nth_read is n x l e = grind arith

-- the instruction at a place of a block
pub instr_here : (image : Image) (b k n : ℕ) (is : List CodeInstr) (x : CodeInstr) → IsBlock image b →
    map view.instr is ≡ (block_at image b).instrs → k ≡ first_number image b + n → n < length is →
    x ≡ get_or is n x → instr_at image k ≡ view.instr x
instr_here image b k n is x h e f l g = grind (arith, whole, nth_read)

-- notes that don't agree

join_fails : (image : Image) (j k : ℕ) (s p : Link) → (note_of image j).succ ≡ s →
    (note_of image k).pred ≡ p → joined s p (seq image j) (seq image k) ≡ false → Disagree image j k
join_fails image j k (Is n) (Is m) e f g = go (cases_eq n (seq image k))
  where
    go : (n ≡ seq image k) ⊎ (n ≡ seq image k → ⊥) → Disagree image j k
    go (inr d) = other_succ e (λ h. d (sym h))
    go (inl h) = other_pred f (λ i. absurd (cc (sym g ∙
        (ap (λ (t : Bool). t && eqb m (seq image j)) (eq-eqb n (seq image k) h) ∙
        eq-eqb m (seq image j) (sym i)))))
join_fails image j k s p e f g = grind (arith, eq-eqb)

agree_fails : (image : Image) (j k : ℕ) → agrees (note_of image j) (note_of image k) ≡ false →
    Disagree image j k
agree_fails image j k e = go (cases_lt (seq image j) (seq image k))
  where
    go : (seq image j < seq image k) ⊎ (seq image k ≤ seq image j) → Disagree image j k
    go (inr l) = falls l
    go (inl l) = join_fails image j k (note_of image j).succ (note_of image k).pred refl refl (grind (
      arith,
      lt-ltb,
    ))

follows : (image : Image) (b k : ℕ) (x : Option ℕ) → k < first_number image (suc b) →
    is_memory image k ≡ true → ComesWith image b k x → ComesNext image x k
follows image b k x w m c = grind arith

abbrev follows_some : (image : Image) (b k : ℕ) → k < first_number image (suc b) → is_memory image k ≡ true →
    (c : Comes image b k) → ComesNext image (last_op image c.done) k
follows_some image b k w m c = record {
  block = b;
  done = c.done;
  path = c.path;
  within = w;
  memory = m;
  last_is = refl;
}

mark_fails : (image : Image) (b k : ℕ) (mark : Mark) (note : Note) → MarkIs image mark →
    note ≡ note_of image k → k < first_number image (suc b) → is_memory image k ≡ true →
    ComesWith image b k (Some mark.op) → agrees mark.note note ≡ false → LinkBreach image mark.op k
mark_fails image b k mark note e f w m c g = pair (follows image b k (Some mark.op) w m c) (agree_fails image
    mark.op k (grind arith))

-- a rule that an operation breaks behind what is kept
pass_breach : (image : Image) (b k : ℕ) (l : Lasts) (note : Note) (w : Bool) (x : Bad) → LastsOk image b k l →
    k < first_number image (suc b) → is_memory image k ≡ true → note ≡ note_of image k →
    w ≡ is_writing image k → PassBad l k note w x → OrderBreach image (Refused x)
unfolding no_note
pass_breach image b k l note w x ok r m e f (low z) = not_positive (follows_some image b k r m ok.comes)
    (sym (ap (λ (n : Note). n.seq) e) ∙ z)
pass_breach image b k l note w x ok r m e f (start n p) =
    first (follows image b k None r m (ok.none_comes n)) (λ h. p (ap (λ (n : Note). n.pred) e ∙ h))
pass_breach image b k l note w x ok r m e f (top p g) = grind (arith, mark_fails)
pass_breach image b k l note w x ok r m e f (other p g) = grind (arith, mark_fails)
pass_breach image b k l note w x ok r m e f (odd p g) = grind (arith, mark_fails)
pass_breach image b k l note w x ok r m e f (own t g) = not_own (follows_some image b k r m ok.comes) (sym f ∙
    t) (λ h. g (ap (λ (n : Note). n.ripple) e ∙ (h ∙ sym (ap (λ (n : Note). n.seq) e))))
pass_breach image b k l note w x ok r m e f (above t g) = go (zero_or l.writer.op)
  where
    zero_or : (n : ℕ) → (n ≡ 0) ⊎ (1 ≤ n)
    zero_or n = elim (cases_eq n 0) [ inl e ↦ inl e | inr d ↦ inr (omega arith) ]

    go : (l.writer.op ≡ 0) ⊎ (1 ≤ l.writer.op) → RippleBreach image k l.writer.op
    go (inl z) = grind (arith, blank_is)
    go (inr p) = let c : ComesBy image b k l.writer.op = ok.writer_comes p in below c.path r m (sym f ∙ t)
        c.among c.writes (grind arith)

-- a refusal at an instruction
pub step_breach : (image : Image) (b k : ℕ) (l : Lasts) (i : Instr) (seen : ℕ →
    Option ℕ) (fault : CheckFault) → instr_at image k ≡ i → IsBlock image b → first_number image b ≤ k →
    k < first_number image (suc b) → LastsOk image b k l → CameAll image (block_at image b).wave seen →
    ((s j : ℕ) → seen s ≡ Some j → j < k) → StepBad seen l k i fault → OrderBreach image fault
step_breach image b k l i seen NoMemory e h v r ok came n s = tt
step_breach image b k l i seen (Refused x) e h v r ok came n (broken m p) =
    pass_breach image b k l (or_else i.note no_note) (is_writing_op i.op) x ok r (memory_read image k i e ∙
    m) (sym (note_read image k i e)) (sym (writing_read image k i e)) p
step_breach image b k l i seen (Refused x) e h v r ok came n (repeated {j = j} m p) = let c : CameWith image
    (block_at image b).wave (mark_of k i).note.seq j = grind arith in twice c.follows (follows_some image b k
    r (memory_read image k i e ∙ m) ok.comes) c.wave (grind (arith, note_read)) (grind arith)

same_block : (image : Image) (b c k : ℕ) → IsIn image b k → IsIn image c k → c ≡ b
same_block image b c k h i = grind (arith, cases_lt, first_le)

init_at : (image : Image) (b : ℕ) (entry : Lasts) (seen : ℕ → Option ℕ) →
    LastsOk image b (first_number image b) entry → CameAll image (block_at image b).wave seen →
    ((s j : ℕ) → seen s ≡ Some j → j < first_number image b) →
    PassState image b entry seen (first_number image b) entry seen
unfolding out_of size_of
init_at image b entry seen ok came few = record {
  low = omega arith;
  left = size_of image b;
  ends = omega (arith, first_le image b (suc b) (omega arith));
  ok = ok;
  kept = refl;
  good = λ g. g;
  came = came;
  fewer = few;
  grows = λ known l h s a. (s, a);
}

pub state_init : (image : Image) (b k : ℕ) (entry : Lasts) (seen : ℕ → Option ℕ) → k ≡ first_number image b →
    LastsOk image b k entry → CameAll image (block_at image b).wave seen → ((s j : ℕ) → seen s ≡ Some j →
    j < k) → PassState image b entry seen k entry seen
state_init image b k entry seen e ok came few = subst (λ (m : ℕ). PassState image b entry seen m entry seen)
    (sym e) (init_at image b entry seen (grind arith) came (grind arith))

pub state_end : (image : Image) (b k : ℕ) (entry here : Lasts) (old seen : ℕ → Option ℕ) →
    PassState image b entry old k here seen → k ≡ first_number image (suc b) →
    PassState image b entry old (first_number image (suc b)) here seen
state_end image b k entry here old seen s e = subst (λ (m : ℕ). PassState image b entry old m here seen) e s

module _ (image : Image) (b k : ℕ) (i : Instr) (entry here : Lasts) (old seen new : ℕ →
    Option ℕ) (state : PassState image b entry old k here seen) (within : k < first_number image (suc b))
    (at : instr_at image k ≡ i) (step : StepSeen seen new k i) where
  memory : is_memory image k ≡ is_memory_op i.op
  memory = memory_read image k i at

  number : seq image k ≡ (mark_of k i).note.seq
  number = ap (λ (n : Note). n.seq) (note_read image k i at)

  here_in : IsIn image b k
  here_in = (state.low, within)

  new_came : CameAll image (block_at image b).wave new
  new_came s j h = go (cases_Bool (is_memory_op i.op))
    where
      own : is_memory_op i.op ≡ true → ((mark_of k i).note.seq ≡ s) ⊎ ((mark_of k i).note.seq ≡ s → ⊥) →
          CameWith image (block_at image b).wave s j
      own m (inl e) = subst (CameWith image (block_at image b).wave s) (grind (arith, some_same, eq-eqb))
          (record {
            last = last_op image state.ok.comes.done;
            follows = grind (arith, memory);
            wave = refl;
            number = number ∙ e;
          })
      own m (inr n) = state.came s j (sym (step.put m s ∙ rw (ne_eqb (mark_of k i).note.seq s n) refl) ∙ h)

      go : (is_memory_op i.op ≡ true) ⊎ (is_memory_op i.op ≡ false) →
          CameWith image (block_at image b).wave s j
      go (inl m) = own m (cases_eq (mark_of k i).note.seq s)
      go (inr m) = state.came s j (sym (step.same m s) ∙ h)

  new_fewer : (s j : ℕ) → new s ≡ Some j → j < suc k
  new_fewer s j h = go (cases_Bool (is_memory_op i.op))
    where
      go : (is_memory_op i.op ≡ true) ⊎ (is_memory_op i.op ≡ false) → j < suc k
      go x = grind arith

  -- an earlier operation of the wave keeps its number
  kept_number : (j : ℕ) → seen (seq image j) ≡ Some j → new (seq image j) ≡ Some j
  kept_number j h = go (cases_Bool (is_memory_op i.op))
    where
      go : (is_memory_op i.op ≡ true) ⊎ (is_memory_op i.op ≡ false) → new (seq image j) ≡ Some j
      go x = grind arith

  new_has : (known : ℕ → Option Lasts) → SeenOk image known (block_at image b).wave k seen →
      (c j : ℕ) (l : Lasts) → known c ≡ Some l → IsIn image c j → j < suc k → is_memory image j ≡ true →
      (block_at image c).wave ≡ (block_at image b).wave → new (seq image j) ≡ Some j
  new_has known s c j l h inn lt m w = go (cases_eq j k)
    where
      go : (j ≡ k) ⊎ (j ≡ k → ⊥) → new (seq image j) ≡ Some j
      go (inl e) = grind (arith, memory, eq-eqb, number)
      go (inr n) = kept_number j (s.has c j l h inn (omega arith) m w)

  clash : (known : ℕ → Option Lasts) → SeenOk image known (block_at image b).wave k seen →
      (c j : ℕ) (l : Lasts) → known c ≡ Some l → IsIn image c j → j < k → is_memory image j ≡ true →
      is_memory image k ≡ true → (block_at image c).wave ≡ (block_at image b).wave →
      seq image j ≡ seq image k → ⊥
  clash known s c j l h inn lt mj mk w e = grind (arith, number, memory)

  new_apart : (known : ℕ → Option Lasts) → SeenOk image known (block_at image b).wave k seen →
      ApartBelow image known k → ApartBelow image known (suc k)
  new_apart known s a c d j n l m hc hd ic id lj ln mj mn w e = go (cases_eq j k) (cases_eq n k)
    where
      go : (j ≡ k) ⊎ (j ≡ k → ⊥) → (n ≡ k) ⊎ (n ≡ k → ⊥) → j ≡ n
      go (inl x) (inl y) = x ∙ sym y
      go (inl x) (inr y) = let cb : c ≡ b = same_block image b c k here_in (subst (IsIn image c) x ic) in
          absurd (clash known s d n m hd id (omega arith) mn (grind arith) (grind arith) (sym e ∙ ap (seq
          image) x))
      go (inr x) (inl y) = let db : d ≡ b = same_block image b d k here_in (subst (IsIn image d) y id) in
          absurd (clash known s c j l hc ic (omega arith) mj (grind arith) (grind arith) (e ∙ ap (seq image)
          y))
      go (inr x) (inr y) = a c d j n l m hc hd ic id (omega arith) (omega arith) mj mn w e

  pub state_step : (more : Lasts) → more ≡ stepped here k i → (is_memory_op i.op ≡ true →
      PassOk here (mark_of k i).note (is_writing_op i.op)) → PassState image b entry old (suc k) more new
  state_step more e pass = go state.left state.ends state.kept state.good
    where
      next : more ≡ after image k here
      next = e ∙ sym (after_read image k i here at)

      passes : is_memory image k ≡ true → PassOk here (note_of image k) (is_writing image k)
      passes m = grind (arith, note_read, writing_read, memory)

      go : (left : ℕ) → k + left ≡ first_number image (suc b) →
          passed image left k here ≡ out_of image b entry → (GoodPass image left k here →
          GoodPass image (size_of image b) (first_number image b) entry) →
          PassState image b entry old (suc k) more new
      go zero f kept good = absurd (omega (arith, f, within))
      go (suc n) f kept good = subst (λ (x : Lasts). PassState image b entry old (suc k) x new) (sym next)
          (record {
            low = omega (arith, state.low);
            left = n;
            ends = omega (arith, f);
            ok = after_ok image b k here state.ok within;
            kept = kept;
            good = λ g. good (passes, g);
            came = new_came;
            fewer = new_fewer;
            grows = λ known l h s a. (let old_ones = state.grows known l h s a in (
              record { came = new_came; fewer = new_fewer; has = new_has known old_ones.0 },
              new_apart known old_ones.0 old_ones.1,
            ));
          })

pub within_read : (image : Image) (b k n m : ℕ) → IsBlock image b → k ≡ first_number image b + n →
    m ≡ length (block_at image b).instrs → n < m → k < first_number image (suc b)
within_read image b k n m h e f l = grind (arith, whole)

pub ends_read : (image : Image) (b k n m : ℕ) → IsBlock image b → k ≡ first_number image b + n →
    m ≡ length (block_at image b).instrs → n ≡ m → k ≡ first_number image (suc b)
ends_read image b k n m h e f l = grind (arith, whole)
