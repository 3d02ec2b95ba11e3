-- What both walks do at the exit of a block.
use Rattle.std.proofs.Common.{ℕ, suc, ◌==◌, ◌≡◌, ◌<◌, ◌≤◌, ◌⊎◌, true, false, List, [], ◌∷◌, length, map}
use Rattle.std.proofs.Common.{get_or, set, sym, ap, ◌∙◌, inl, inr, Option, Some, None, arith}
use Rattle.std.specs.List.{AllByRecursion}
use Rattle.std.proofs.lemmas.Bool.{cases_eq}
use Rattle.std.proofs.lemmas.List.{get_or-set_same, get_or-set_other, length-set}
use Rattle.ws_words.specs.Outside.{Outside, ProcState, zeros}
use Rattle.cfg_core.specs.Graph.{Term, Goto, Branch, Call, Graph, Spot, spots, spot_at, block_at}
use Rattle.cfg_core.specs.Walk.{OpsOutcome, run_ops, value_of, Frame, At, landed, with_result, leave, passed}
use Rattle.cfg_core.specs.Walk.{step}
use Rattle.live_vars.specs.Live.{ExitWrites, Live}
use Rattle.live_vars.specs.Marks.{has}
use Rattle.call_gen.specs.Spelled.{is_called, is_calling, moved, cell, below, is_result, is_saved, saved}
use Rattle.call_gen.specs.Spelled.{load, spelled}
use Rattle.call_gen.proofs.Along.Visible.{Same}
use Rattle.call_gen.proofs.Along.Agreeing.{States, term_states, term_value}
use Rattle.call_gen.proofs.Spelled.Slots.{peek, Roomy, peeks_in, peeks_other, peeks_count, in_below}
use Rattle.call_gen.proofs.Spelled.Slots.{below_all}
use Rattle.call_gen.proofs.Along.Spilling.{loads_run}
use Rattle.call_gen.proofs.Spelled.Facts.{Given, Placed, Celled}
use Rattle.call_gen.proofs.Along.Standing.{total, rows, size, Stack, Stands, owed, Reaches, if_reaches}
use Rattle.call_gen.proofs.Along.Standing.{reaches_by, reaches_later, exit_in, stack_any}
use Rattle.ws_words.proofs.Numbers.{zeros_count}
use Rattle.cfg_core.proofs.Spots.{all_from, filter_in, in_filter}
use Rattle.ws_words.proofs.Bools.{decide}
use Rattle.ws_words.specs.Items.{or_else, In}
use Rattle.live_vars.proofs.Needed.{After}

-- a call's result, as a test
pub result_not : (r : Option ℕ) (f : ℕ) (ts : List Term) (back x : ℕ) → (ExitWrites (Call r f ts back) x → ⊥)
    → is_result r x ≡ false
result_not r f ts back x never = grind arith

result_is : (r : Option ℕ) (f : ℕ) (ts : List Term) (back x : ℕ) → ExitWrites (Call r f ts back) x
    → is_result r x ≡ true
result_is r f ts back x h = grind arith

module _ (g : Graph) (live : List (List ℕ)) (G : Given g live) (F : Placed g live) (C : Celled g) (b : ℕ)
    (there : b < length (spots g)) where
  abbrev home : ℕ
  home = (spot_at g b).home

  abbrev v : ℕ
  v = (spot_at g b).vars

  abbrev S : ℕ → List (List ℕ) → (ℕ → Type 0) → ProcState → ProcState → Type 0
  S extra hidden P s t = States g (rows g live) (size g live) v extra hidden P s t

  -- on to a block of the same procedure
  onward : (c : ℕ) → c < length (spots g) → (spot_at g c).home ≡ home → (extra : ℕ) (hidden : List (List ℕ))
      (s t : ProcState) (frames : List Frame) (callers : List ℕ) → S extra hidden (Live g c) s t
      → Roomy (total g live) hidden → Stack g live hidden home extra frames callers
      → Stands g live c s frames callers t
  onward c lt same extra hidden s t frames callers h roomy stack = grind (arith, v, States, rows, size, Stack)

  -- the variables that a call in this block saves
  module _ (r : Option ℕ) (back : ℕ) where
    abbrev pub kept : List ℕ
    kept = saved g live home v r back

    pub kept_low : (x : ℕ) → In x kept → x ≤ v
    kept_low x i = let h = below_all (suc v) x (filter_in (is_saved g live home v r back) (below (suc v)) x
        i).0 in omega arith

    pub kept_live : (x : ℕ) → x < v → has live back x ≡ true → is_result r x ≡ false → In x kept
    kept_live x lt h nr = grind (arith, in_filter, in_below (suc v) x (omega arith))

    pub kept_address : is_called g home ≡ true → In v kept
    kept_address h = grind (arith, in_filter, in_below (suc v) v (omega arith))

    not_kept : (x : ℕ) → x < v → is_result r x ≡ true → In x kept → ⊥
    not_kept x lt res i = grind (arith, filter_in)

    abbrev pub at : ℕ → ℕ
    at x = cell g home x

    pub at_apart : (x y : ℕ) → at x ≡ at y → x ≡ y
    at_apart x y e = omega arith

    pub kept_in : is_calling g home ≡ true → AllByRecursion (λ x. at x < total g live) kept
    kept_in c = grind (arith, all_from, total, kept, home, kept_low)

  abbrev h : Graph
  h = spelled g live

  pub goes_on : (w : ℕ → ℕ) (c : ℕ) → (block_at g b).exit ≡ Goto c → (s t : ProcState) (frames : List Frame)
      (callers : List ℕ) (k extra : ℕ) (hidden : List (List ℕ)) → Roomy (total g live) hidden
      → Stack g live hidden home extra frames callers → S extra hidden (After g (Goto c)) s t
      → Reaches g live w (owed g live w callers) (At c s frames k) (At (moved g c) t [] k)
  goes_on w c is s t frames callers k extra hidden roomy stack st =
      let i = exit_in g live G F b (Goto c) is in
      record {
        blocks = 0;
        callers = callers;
        relates = grind (arith, onward);
        weigh = omega arith;
      }

  pub branches : (w : ℕ → ℕ) (term : Term) (c d : ℕ) → (block_at g b).exit ≡ Branch term c d
      → (s t : ProcState) (frames : List Frame) (callers : List ℕ) (k extra : ℕ) (hidden : List (List ℕ))
      → Roomy (total g live) hidden → Stack g live hidden home extra frames callers
      → S extra hidden (After g (Branch term c d)) s t
      → Reaches g live w (owed g live w callers) (leave g (Branch term c d) s frames k)
      (leave h (Branch term (moved g c) (moved g d)) t [] k)
  branches w term c d is s t frames callers k extra hidden roomy stack st =
      let i = exit_in g live G F b (Branch term c d) is in
      let P = After g (Branch term c d) in
      let on = term_states g (rows g live) (size g live) v extra hidden P s t
      st term i.0 (λ x m. inl m) in
      let same = term_value g (rows g live) (size g live) v extra hidden P s t
      st term i.0 (λ x m. inl m) in
      if_reaches g live w (owed g live w callers) ((value_of term s).0 == 0) ((value_of term t).0 == 0) _ _ _
      _ (ap (λ n. n == 0) same)
      (record {
        blocks = 0;
        callers = callers;
        relates = grind (arith, onward);
        weigh = omega arith;
      })
      (record {
        blocks = 0;
        callers = callers;
        relates = grind (arith, onward);
        weigh = omega arith;
      })

  -- at the return point of a call in this block, with this result
  module _ (r : Option ℕ) (f : ℕ) (ts : List Term) (back : ℕ)
      (is : (block_at g b).exit ≡ Call r f ts back) where
    calling : is_calling g home ≡ true
    calling = (F.called b r f ts back there is).1

    pub writes : (x : ℕ) → (ExitWrites (block_at g b).exit x → ⊥) → ExitWrites (Call r f ts back) x → ⊥
    writes x never w = never (rw is w)

    at_point : (o : Outside) (w k : ℕ)
        → step h (At (suc (moved g b))
        (record {
          vars = landed (spot_at h (suc (moved g b))).block.named (w ∷ [])
              (zeros (spot_at h (suc (moved g b))).vars);
          out = o;
        }) [] k)
        ≡ passed h
        (run_ops (map (load g home) (kept r back))
        (record { vars = set (zeros (suc v)) (or_else r v) w; out = o }) k) (Goto (moved g back)) []
    at_point o w k = ap (λ (p : Spot). passed h (run_ops p.block.ops (record {
      vars = landed p.block.named (w ∷ []) (zeros p.vars);
      out = o;
    }) k) p.block.exit []) (F.point b r f ts back there is)

    result_word : (vars : List ℕ) (w x : ℕ) → length vars ≡ v → x < v → ExitWrites (Call r f ts back) x
        → get_or (with_result r w vars) x 0 ≡ w
    result_word vars w x long lt h = grind (arith, get_or-set_same)

    other_word : (vars : List ℕ) (w x : ℕ) → (ExitWrites (Call r f ts back) x → ⊥)
        → get_or (with_result r w vars) x 0 ≡ get_or vars x 0
    other_word vars w x never = grind (arith, get_or-set_other)

    result_count : (vars : List ℕ) (w : ℕ) → length (with_result r w vars) ≡ length vars
    result_count vars w = grind (arith, length-set)

    place_of : (x : ℕ) → ExitWrites (Call r f ts back) x → or_else r v ≡ x
    place_of x h = grind (arith, v)

    written_or_not : (x : ℕ) → ExitWrites (Call r f ts back) x ⊎ (ExitWrites (Call r f ts back) x → ⊥)
    written_or_not x = by_result r
      where
        by_result : (q : Option ℕ) → ExitWrites (Call q f ts back) x ⊎ (ExitWrites (Call q f ts back) x → ⊥)
        by_result None = inr (λ w. w)
        by_result (Some y) = cases_eq x y

    pub comes_back : (weight : ℕ → ℕ) (o p : Outside) (w u k : ℕ) (vars : List ℕ) (frames : List Frame)
        (callers : List ℕ) (hidden : List (List ℕ)) → w ≡ u → Same (length g.arrays) (rows g live)
        (size g live) hidden o p → Roomy (total g live) hidden → length vars ≡ v
        → ((x : ℕ) → x < v → Live g back x → (ExitWrites (block_at g b).exit x → ⊥)
        → peek hidden (cell g home x) ≡ get_or vars x 0)
        → Stack g live hidden home (peek hidden (cell g home v)) frames callers
        → Reaches g live weight (owed g live weight (b ∷ callers))
        (At back (record { vars = with_result r w vars; out = o }) frames k)
        (At (suc (moved g b))
        (record {
          vars = landed (spot_at h (suc (moved g b))).block.named (u ∷ [])
              (zeros (spot_at h (suc (moved g b))).vars);
          out = p;
        }) [] k)
    comes_back weight o p w u k vars frames callers hidden ew out roomy long kept_vars stack =
        let i = exit_in g live G F b (Call r f ts back) is in
        let xs = kept r back in
        let start : ProcState = record { vars = set (zeros (suc v)) (or_else r v) u; out = p } in
        let l = loads_run g (total g live) home hidden o start xs k (kept_in r back calling) out in
        let count : length start.vars ≡ suc v = length-set (zeros (suc v)) (or_else r v) u
        ∙ zeros_count (suc v) in
        let agree : (x : ℕ) → x < v → Live g back x → get_or (with_result r w vars) x 0 ≡ get_or l.state.vars
        x 0 = λ x lt live_x. elim (written_or_not x) [
          | inl wr ↦
              let out_of : In x xs → ⊥ = not_kept r back x lt (result_is r f ts back x wr) in
              result_word vars w x long lt wr ∙ ew
              ∙ sym (ap (λ (vs : List ℕ). get_or vs x 0) l.vars ∙ peeks_other (total g live) (at r back)
              (at_apart r back) hidden xs start.vars x out_of
              ∙ ap (λ n. get_or (set (zeros (suc v)) n u) x 0) (place_of x wr)
              ∙ get_or-set_same (zeros (suc v)) x u 0 (omega (arith, lt, zeros_count (suc v))))
          | inr nw ↦
              let never : ExitWrites (block_at g b).exit x → ⊥ =
              λ e. nw (rw is at e) in
              let there_x : In x xs =
              grind (arith, kept_live, result_not) in
              grind (arith, other_word, peeks_in, total, at_apart)
        ] in
        let st : S (get_or l.state.vars v 0) hidden (Live g back)
        (record { vars = with_result r w vars; out = o }) l.state =
        grind (arith, result_count, peeks_count, total, at_apart) in
        let rest : Stack g live hidden home (get_or l.state.vars v 0) frames callers =
        grind (arith, decide, peeks_in, total, at_apart, kept_address, stack_any, peek) in
        reaches_later g live weight (owed g live weight callers) _ (suc (moved g b)) _ _ _
        (reaches_by g live weight _ _ _ _
        (at_point p u k ∙ ap (λ (q : OpsOutcome). passed h q (Goto (moved g back)) []) l.run)
        (record {
          blocks = 0;
          callers = callers;
          relates = grind (arith, onward);
          weigh = omega arith;
        }))
