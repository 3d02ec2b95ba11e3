-- What both walks do at a Return.
use Rattle.std.proofs.Common.{ℕ, suc, ◌≡◌, ◌<◌, Bool, true, false, if◌then◌else◌, List, [], ◌∷◌, ◌++◌, length}
use Rattle.std.proofs.Common.{get_or, refl, ap, ◌∙◌, inl, inr, arith}
use Rattle.std.proofs.lemmas.List.{append-nil}
use Rattle.ws_words.specs.Outside.{Outside, ProcState, zeros}
use Rattle.cfg_core.specs.Graph.{Term, Var, Exit, Return, Send, Graph, spots, spot_at, block_at}
use Rattle.cfg_core.specs.Walk.{Done, value_of, loads_of, Frame, Config, At, landed, landing, returned}
use Rattle.cfg_core.specs.Walk.{passed}
use Rattle.call_gen.specs.Spelled.{is_called, moved, landings, left, spelled}
use Rattle.call_gen.proofs.Along.Visible.{Same}
use Rattle.call_gen.proofs.Along.Agreeing.{States, term_states, term_value}
use Rattle.call_gen.proofs.Spelled.Slots.{Roomy}
use Rattle.call_gen.proofs.Spelled.Facts.{Given, Placed, Celled}
use Rattle.call_gen.proofs.Along.Standing.{total, rows, size, Stack, owed, Reaches, reaches_by, exit_in}
use Rattle.call_gen.proofs.Along.Leaves.{comes_back}
use Rattle.ws_words.proofs.Bools.{decide}
use Rattle.ws_words.proofs.Acts.{with_more}
use Rattle.live_vars.proofs.Needed.{After}

module _ (g : Graph) (live : List (List ℕ)) (G : Given g live) (F : Placed g live) (C : Celled g) (b : ℕ)
    (there : b < length (spots g)) (term : Term) (is : (block_at g b).exit ≡ Return term) (s t : ProcState)
    (k extra : ℕ) (hidden : List (List ℕ)) (roomy : Roomy (total g live) hidden)
    (st : States g (rows g live) (size g live) (spot_at g b).vars extra hidden (After g (Return term)) s
    t) where
  abbrev h : Graph
  h = spelled g live

  abbrev home : ℕ
  home = (spot_at g b).home

  abbrev v : ℕ
  v = (spot_at g b).vars

  value_is : (value_of term s).0 ≡ (value_of term t).0
  value_is = term_value g (rows g live) (size g live) v extra hidden (After g (Return term)) s t st term
      (exit_in g live G F b (Return term) is) (λ x m. inl m)

  out_is : Same (length g.arrays) (rows g live) (size g live) hidden (value_of term s).1.out
      (value_of term t).1.out
  out_is = (term_states g (rows g live) (size g live) v extra hidden (After g (Return term)) s t st term
      (exit_in g live G F b (Return term) is) (λ x m. inl m)).out

  open_exit : (c : Bool) → is_called g home ≡ c → left g home v b (Return term)
      ≡ (if c then Send (Var v) (term ∷ []) (landings g home) else Return term)
  open_exit c e = ap (λ (d : Bool). if d then Send (Var v) (term ∷ []) (landings g home) else Return term) e

  pub returns : (w : ℕ → ℕ) (frames : List Frame) (callers : List ℕ) → Stack g live hidden home extra frames
      callers → Reaches g live w (owed g live w callers) (returned (value_of term s).0 (value_of term s).1.out
      frames k) (passed h (Done t k) (left g home v b (Return term)) [])
  returns w [] [] stack = elim (decide (is_called g home)) [
    | inl c ↦ absurd (omega (arith, F.last home c, stack))
    | inr c ↦ reaches_by g live w _ _ _ _ (ap (λ (x : Exit). passed h (Done t k) x []) (open_exit false c))
        (record {
          blocks = 0;
          callers = [];
          relates = (refl, record { hidden = hidden; same = out_is });
          weigh = omega arith;
        })
  ]
  returns weight (frame ∷ frames) (c ∷ callers) stack =
      let w = stack.0 in
      let called = (F.called c frame.result home w.terms frame.back w.there w.exit).0 in
      let place : landing (get_or t.vars v 0) (landings g home) ≡ suc (moved g c) =
      ap (λ n. landing n (landings g home)) (st.more ∙ w.address) ∙ F.landing c frame.result home w.terms
      frame.back w.there w.exit in
      let word = (value_of term t).0 in
      let out : Outside = with_more (with_more t.out []) (loads_of term t.vars t.out.cells ++ []) in
      let goes_to : ℕ → Config =
      λ n. At n (record {
        vars = landed (spot_at h n).block.named (word ∷ []) (zeros (spot_at h n).vars);
        out = out;
      }) [] k in
      let same : Same (length g.arrays) (rows g live) (size g live) hidden (value_of term s).1.out out =
      rw out_same at out_is in
      reaches_by g live weight _ _ _ _ (ap (λ (x : Exit). passed h (Done t k) x []) (open_exit true called)
      ∙ ap goes_to place)
      (comes_back g live G F C c w.there frame.result home w.terms frame.back w.exit weight
      (value_of term s).1.out out (value_of term s).0 word k frame.vars frames callers hidden value_is
      same roomy w.long w.kept stack.1)
    where
      out_same : (value_of term t).1.out ≡ with_more (with_more t.out [])
          (loads_of term t.vars t.out.cells ++ [])
      out_same = grind (arith, append-nil)
  returns w frames callers stack = grind arith
