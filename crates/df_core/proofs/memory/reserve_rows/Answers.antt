use Rattle.std.proofs.Common.{ℕ, ◌≡◌, ◌<◌, ◌≤◌, ◌+◌, ◌∙◌, sym, refl, false, subst, length, Vec, Global}
use Rattle.std.proofs.Common.{vec_len, vec_capacity, inl, inr, arith}
use Rattle.std.proofs.lemmas.Bool.{cases_lt, both_ways}
use Rattle.df_core.proofs.Sizes.Trays.{kept_rows, kept_space, length_set, nth_set, value_nth}
use Rattle.df_core.proofs.memory.reserve_rows.Goals as goal
use Rattle.ws_words.proofs.Places.{nth_short}

pub returns-in_err-reserve-clause-same : goal.returns-in_err-reserve-clause-same
returns-in_err-reserve-clause-same c =
    kept_rows c.loop-place.rows.items c.loop-place.place c.index_mut.result.now c.reserve.new.self
    (omega (arith, c.loop-place.invariant.size, c.loop-place-test.true)) c.index_mut.ensures.value
    c.reserve.ensures.items ∙ c.loop-place.invariant.same

pub returns-in_err-reserve-clause-kept : goal.returns-in_err-reserve-clause-kept
returns-in_err-reserve-clause-kept c = λ n h.
    kept_space c.loop-place.rows.items c.loop-place.place c.index_mut.result.now c.reserve.new.self n
    (omega (arith, c.loop-place.invariant.size, c.loop-place-test.true)) c.index_mut.ensures.value
    c.reserve.ensures.len c.reserve.ensures.capacity (c.loop-place.invariant.kept n h)

pub loop-place-preserved : goal.loop-place-preserved
loop-place-preserved c = record {
  same = kept_rows c.loop-place.rows.items c.loop-place.place c.index_mut.result.now c.reserve.new.self
      (omega (arith, c.loop-place.invariant.size, c.loop-place-test.true)) c.index_mut.ensures.value
      c.reserve.ensures.items ∙ c.loop-place.invariant.same;
  kept = λ n h. kept_space c.loop-place.rows.items c.loop-place.place c.index_mut.result.now
      c.reserve.new.self n (omega (arith, c.loop-place.invariant.size, c.loop-place-test.true))
      c.index_mut.ensures.value c.reserve.ensures.len c.reserve.ensures.capacity
      (c.loop-place.invariant.kept n h);
  size = length_set c.loop-place.rows.items c.loop-place.place c.reserve.new.self
      ∙ c.loop-place.invariant.size;
  later = λ p row l e. elim (nth_set c.loop-place.rows.items c.loop-place.place c.reserve.new.self p row e) [
    | inl h ↦ absurd (let q : p ≡ c.loop-place.place = h.0 in omega arith)
    | inr h ↦ c.loop-place.invariant.later p row (omega arith) h.1
  ];
  done = λ p row l e. elim (nth_set c.loop-place.rows.items c.loop-place.place c.reserve.new.self p row e) [
    | inl h ↦ subst (λ (v : Vec ℕ Global). vec_len v + c.args.more ≤ vec_capacity v) (sym h.1)
        (omega (arith, c.in_ok-reserve.ensures.ok))
    | inr h ↦ elim (cases_lt p c.loop-place.place) [
      | inl k ↦ c.loop-place.invariant.done p row k h.1
      | inr k ↦ absurd (h.0 (omega arith))
    ]
  ];
}

pub returns-clause-space : goal.returns-clause-space
returns-clause-space c = λ p row e.
    let l : p < length c.loop-place.rows.items = nth_short c.loop-place.rows.items p row e in
    c.loop-place.invariant.done p row (omega (arith, c.loop-place.invariant.size, c.loop-place-test.false)) e

pub returns-in_err-reserve-clause-succeeds : goal.returns-in_err-reserve-clause-succeeds
returns-in_err-reserve-clause-succeeds c = λ space.
    let there = value_nth c.loop-place.rows.items c.loop-place.place c.index_mut.result.now
    (omega (arith, c.loop-place.invariant.size, c.loop-place-test.true)) c.index_mut.ensures.value in
    let old = c.loop-place.invariant.later c.loop-place.place c.index_mut.result.now (omega arith) there in
    let room : vec_len c.index_mut.result.now + c.args.more ≤ vec_capacity c.index_mut.result.now =
    space c.loop-place.place c.index_mut.result.now old in
    absurd (both_ways false refl (c.in_err-reserve.ensures.succeeds room))
