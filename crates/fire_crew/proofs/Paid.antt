-- Tokens that have come, and those that are missing.
use Rattle.std.proofs.Common.{◌≡◌, inl, inr, ℕ, true, false, List, [], ◌∷◌, ◌++◌, ◌+◌, ◌<◌}
use Rattle.std.proofs.Common.{◌≤◌, suc, is_some, All, length, take, slice_index_or}
use Rattle.std.proofs.Common.{add-one, arith, refl, subst}
use Rattle.std.proofs.Common.{replicate, slice_set}
use Rattle.std.proofs.lemmas.Bool.{cases_eq, cases_lt}
use Rattle.std.proofs.lemmas.List.{take_all, get_or-set_same, get_or-set_other}
use Rattle.std.proofs.lemmas.List.{get_or-replicate, get_or_past, length-replicate}
use Rattle.std.proofs.lemmas.List.Elements.{All-get_or, All-more, All-push}
use Rattle.ws_isa.specs.declared.instr.Dest.{Dest}
use Rattle.ws_isa.specs.Image.{Image, Token, is_memory, result_of, sends, tokens_to}
use Rattle.ws_isa.specs.Walk.{Ports}
use Rattle.df_core.specs.Core.{Key, HasFired, has, operands_in}
use Rattle.ws_isa.specs.Walk.{start_tokens}
use Rattle.df_core.specs.Shown.{Buffer, plain_tokens, op_tokens}
use Rattle.df_core.proofs.Keeping.Ports.{has_some}
use Rattle.df_core.proofs.Walked.SlotLists.{is_sent_append_cases}
use Rattle.match_table.specs.Tables.{held, of_memory, TableContent}
use Rattle.store_buf.specs.declared.kept.Kept.{Kept}
use Rattle.store_buf.specs.Contents as buf
use Rattle.match_table.specs.Together.{all_fired, together}
use Rattle.match_table.specs.Growth.{content_at}
use Rattle.fire_crew.specs.Owing.{AllKnown, AnswersReach, HaveCome, IsKnown, IsMissing, ResultsReach}
use Rattle.fire_crew.specs.Owing.{ResultsReachAt, ToldIn}
use Rattle.fire_crew.specs.Solo.{Owes, Paid}
use Rattle.store_buf.specs.Runs.{AllReach, Covers, IsOnItsWay}
use Rattle.store_buf.proofs.Reaching.{covers_left, covers_right}
use Rattle.store_buf.proofs.Found.{entry_case}
use Rattle.match_table.proofs.FiredPlaces.{none_fired, fired_place, asked_there}
use Rattle.match_table.proofs.Union.{listed_at}
use Rattle.match_table.proofs.Held.{has_none}
use Rattle.ws_words.specs.Items.{or_else}

module _ (held : Ports) where
  pub come_none : HaveCome held []
  come_none w i p v s = absurd s

  pub come_append : (ts us : List Token) → HaveCome held ts → HaveCome held us → HaveCome held (ts ++ us)
  come_append ts us a b w i p v s = grind (arith, is_sent_append_cases)

  -- what the instances of a list owe
  pub come_plain : (image : Image) (ks : List Key) → ((w i : ℕ) → HasFired ks w i → is_memory image i ≡ false
      → HaveCome held
      (sends image w i (operands_in image held w i) (result_of image i (operands_in image held w i))))
      → HaveCome held (plain_tokens image held ks)
  come_plain image [] each = come_none
  come_plain image (k ∷ ks) each =
      grind (arith, come_append, come_none, come_plain image ks (λ w i h. each w i (inr h)))

  pub come_ops : (image : Image) (b : Buffer) (ks : List Key)
      → ((w i : ℕ) → HasFired ks w i
      → HaveCome held (sends image w i (or_else (b.kept w i) []) (or_else (b.issued w i) 0)))
      → HaveCome held (op_tokens image b ks)
  come_ops image b [] each = come_none
  come_ops image b (k ∷ ks) each = grind (arith, come_append, come_ops image b ks (λ w i h. each w i (inr h)))

  module _ (way : List Token) where
    reach_one : (w v : ℕ) (ds : List Dest) (k : ℕ) (d : Dest) → k < length ds
        → IsOnItsWay held way w (slice_index_or ds k d).instr (slice_index_or ds k d).port
        → AllReach held way (tokens_to w v (take k ds)) → AllReach held way (tokens_to w v (take (suc k) ds))
    reach_one w v (x ∷ ds) (suc k) d lt h come = λ a i p u s. elim s [
      | inl e ↦ come a i p u (inl e)
      | inr r ↦ reach_one w v ds k d (omega (arith, lt)) h (λ b j q y z. come b j q y (inr z)) a i p u r
    ]
    reach_one v0 v1 v2 v3 v4 v5 v6 v7 = grind arith

    -- one more of the tokens of a word has come or is on the way
    pub reach_sent : (w v : ℕ) (ds : List Dest) (k : ℕ) (d : Dest) → k < length ds
        → IsOnItsWay held way w (slice_index_or ds k d).instr (slice_index_or ds k d).port
        → AllReach held way (tokens_to w v (take k ds)) → AllReach held way (tokens_to w v (take (k + 1) ds))
    reach_sent w v ds k d lt h come = rw (add-one k) (reach_one w v ds k d lt h come)

    -- so one more of a list of tokens
    pub reach_more : (t : Token) (ts : List Token) → IsOnItsWay held way t.wave t.instr t.port
        → AllReach held way ts → AllReach held way (t ∷ ts)
    reach_more v0 v1 v2 v3 v4 v5 v6 v7 v8 = grind arith

    -- a token that has come, and one that was put on the way last
    pub is_come : (w i p : ℕ) → has (held w i p) ≡ true → IsOnItsWay held way w i p
    is_come w i p h = inl (has_some (held w i p) h)

    pub is_found : (found new : List Token) (t : Token) → new ≡ found ++ t ∷ [] → Covers new way
        → Covers found way × IsOnItsWay held way t.wave t.instr t.port
    is_found found new t n c =
        let d : Covers (found ++ t ∷ []) way = rw (← n) c in (
          covers_left found (t ∷ []) way d,
          inr (
            t.value,
            covers_right found (t ∷ []) way d t.wave t.instr t.port t.value (inl (refl, refl, refl, refl)),
          ),
        )

  pub found_missing : (found new : List Token) (t : Token) → new ≡ found ++ t ∷ []
      → has (held t.wave t.instr t.port) ≡ false → All (IsMissing held) found → All (IsMissing held) new
  found_missing found new t n h a = rw n (All-push (IsMissing held) found t a (has_none _ h))

-- one more of a list is done
pub one_more : {X : Type 0} (P : X → Type 0) (fs all : List X) (k : ℕ) (d : X) → fs ≡ all → k < length fs
    → All P (take k all) → P (slice_index_or fs k d) → All P (take (k + 1) all)
one_more {X} P fs all k d is lt a p = All-more P all k d (rw (← is) lt) a (rw (← is) p)

pub all_done : {X : Type 0} (P : X → Type 0) (all : List X) (k : ℕ) → length all ≤ k → All P (take k all)
    → All P all
all_done {X} P all k le a = subst (λ (l : List X). All P l) (take_all k all le) a

module _ (image : Image) (all : Ports) (way : List Token) where
  -- the one that a table lists at a place has told, by its key or as the code finds it
  pub told_key : (place : ℕ) (c : TableContent) (k : Key) → ((d : Key) → slice_index_or c.fired place d ≡ k)
      → ResultsReach image all way (operands_in image (held c) k.wave k.instr) k
      → ResultsReachAt image all way place c
  told_key place c k at now d = grind arith

  -- one more of a stretch is done
  pub told_more : (from place : ℕ) (c : TableContent) → ToldIn image all way from place c
      → ResultsReachAt image all way place c → ToldIn image all way from (place + 1) c
  told_more from place c before now k d low high within = grind (arith, cases_lt)

  -- one stretch after another
  pub told_join : (from mid to : ℕ) (c : TableContent) → ToldIn image all way from mid c
      → ToldIn image all way mid to c → ToldIn image all way from to c
  told_join from mid to c a b k d low high within = grind (arith, cases_lt)

  -- each that the table lists has told so
  abbrev pub AllTold : TableContent → Type 0
  AllTold c = All (λ (k : Key). ResultsReach image all way (operands_in image (held c) k.wave k.instr) k)
      c.fired

  -- all of a list are done
  pub told_all : (to : ℕ) (c : TableContent) → length c.fired ≤ to → ToldIn image all way 0 to c → AllTold c
  told_all to c le told k d lt = told k d (omega arith) (omega (arith, lt, le)) lt

-- each of some places that are 0, and each past them
pub zero_at : (n k : ℕ) → slice_index_or (replicate {A = ℕ} n 0) k 0 ≡ 0
zero_at n k = grind (arith, cases_lt, get_or-replicate, get_or_past, length-replicate)

-- one place is another now
pub set_each : (P : ℕ → ℕ → Type 0) (xs : List ℕ) (n v : ℕ) → n < length xs → P n v → (k : ℕ)
    → ((k ≡ n → ⊥) → P k (slice_index_or xs k 0)) → P k (slice_index_or (slice_set xs n v) k 0)
set_each P xs n v lt now k before = grind (arith, cases_eq, slice_set, get_or-set_same, get_or-set_other)

-- one more table is done
pub next_table : (P : TableContent → Type 0) (cs : List TableContent) (n : ℕ) (c : TableContent)
    → c ≡ content_at cs n → ((k : ℕ) → k < n → P (content_at cs k)) → P c → (k : ℕ) → k < n + 1
    → P (content_at cs k)
next_table P cs n c is before now k lt = grind (arith, cases_lt)

pub known_all : (image : Image) (kept : List Kept) (cs : List TableContent)
    → ((k : ℕ) → k < length cs → All (IsKnown kept) (of_memory image (content_at cs k).fired))
    → AllKnown image (together cs) kept
known_all image kept cs each w i h m =
    let r = listed_at cs w i h in
    let asked : List Key = of_memory image (content_at cs r.0).fired in
    let p = fired_place asked w i (asked_there image (content_at cs r.0).fired w i r.2 m) in
    grind (arith, none_fired, All-get_or, is_some)

module _ (image : Image) (cs : List TableContent) (same : (k : ℕ)
    → All (λ (f : Key). operands_in image (held (content_at cs k)) f.wave f.instr ≡ operands_in image
    (together cs).held f.wave f.instr) (content_at cs k).fired) (way : List Token) where
  abbrev hold : Ports
  hold = (together cs).held

  plain_all : ((k : ℕ) → k < length cs → AllTold image hold way (content_at cs k)) → (w i : ℕ)
      → HasFired (all_fired cs) w i → is_memory image i ≡ false
      → AllReach hold way
      (sends image w i (operands_in image hold w i) (result_of image i (operands_in image hold w i)))
  plain_all each w i h m = grind (arith, listed_at, fired_place, none_fired, All-get_or)

  module _ (c : buf.Content) where
    ops_all : All (AnswersReach image hold way) c.kept → (ts : List Token) → Owes image c ts
        → AllReach hold way ts
    ops_all each ts o = grind (arith, entry_case, All-get_or)

    -- all that is owed has come or is on the way
    pub all_paid : AllReach hold way (start_tokens image)
        → ((k : ℕ) → k < length cs → AllTold image hold way (content_at cs k))
        → All (AnswersReach image hold way) c.kept → AllKnown image (together cs) c.kept
        → Paid image (together cs) c way
    all_paid start plain ops known = grind (arith, plain_all plain, ops_all ops)
