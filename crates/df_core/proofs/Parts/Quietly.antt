-- Which events fire an instance.
use Rattle.std.proofs.Common.{ℕ, zero, suc, ◌≡◌, ◌<◌, ◌≤◌, ◌⊎◌, ◌||◌, ◌&&◌, Bool, true, false, cond, eqb}
use Rattle.std.proofs.Common.{List, [], ◌∷◌, ◌++◌, length, map, Option, Some, is_some, MatchOption}
use Rattle.std.proofs.Common.{slice_index_or, refl, sym, ap, ◌∙◌, subst, inl, inr, arith}
use Rattle.std.proofs.lemmas.Bool.{cases_eq, both_ways, eq-eqb}
use Rattle.std.proofs.Math.Bool.{and-false}
use Rattle.ws_words.specs.Outside.{World}
use Rattle.ws_isa.specs.Image as plain
use Rattle.ws_isa.specs.Image.{Image, ports}
use Rattle.ws_isa.specs.Formed.{Formed}
use Rattle.ws_isa.specs.Walk.{Ports}
use Rattle.ws_isa.specs.Sound.{Sound}
use Rattle.df_core.specs.Core.{State, Key, Match, Issue, Step, Enabled, IsSent, has, is_full, with_at}
use Rattle.df_core.specs.Core.{same_place, arrived, asks, tells, matched, issue, Event}
use Rattle.df_core.proofs.Walked.FromSound.{facts_of}
use Rattle.df_core.proofs.Walked.PortsThere.{ports_there}
use Rattle.df_core.specs.declared.plain.Token.{Token}
use Rattle.df_core.specs.declared.slots.MatchStore.{MatchStore}
use Rattle.df_core.specs.declared.way.Way.{Way}
use Rattle.df_core.specs.declared.flow.Flow.{Flow}
use Rattle.df_core.specs.declared.engine.Core.{Core}
use Rattle.df_core.specs.Places.{image_of}
use Rattle.df_core.specs.Partial.{partial_of}
use Rattle.df_core.specs.Ways.{token_of, way_of, no_token}
use Rattle.df_core.specs.Flows.{NoneAskedMay, FlowIs}
use Rattle.df_core.specs.Cores.{IsAt}
use Rattle.df_core.specs.Quiet.{IsQuiet, IsQuietly, OnlyFires, fills, AllFill}
use Rattle.df_core.proofs.Parts.StandsMatch.{full_agree, way_unfired}
use Rattle.df_core.proofs.Parts.Driving.{none_enabled}
use Rattle.df_core.proofs.Keeping.Same.{same_refl}

eqb_same : (n : ℕ) → eqb n n ≡ true
eqb_same n = eq-eqb n n refl

has_some : (o : Option ℕ) → has o ≡ is_some o
has_some o = grind arith

-- the token's own port has it, and the others are as they were
pub has_at_port : (f : Ports) (w i p q v : ℕ) → has (with_at w i p (Some v) f w i q)
    ≡ (eqb p q || is_some (f w i q))
has_at_port f w i p q v = grind (arith, eqb_same, has_some)

-- the first ports are full, and the next one is
pub full_more : (f : Ports) (w i n m : ℕ) → m ≡ suc n → has (f w i n) ≡ true → is_full f w i n ≡ true
    → is_full f w i m ≡ true
full_more f w i n m e a b = rw (e, a) b

-- one of the ports isn't full
pub not_full : (f : Ports) (w i p n : ℕ) → p < n → has (f w i p) ≡ false → is_full f w i n ≡ false
not_full f w i p zero l e = absurd (omega arith)
not_full f w i p (suc n) l e = elim (cases_eq p n) [
  | inl g ↦ ap (λ (b : Bool). b && is_full f w i n) (ap (λ (q : ℕ). has (f w i q)) (sym g) ∙ e)
  | inr g ↦ ap (λ (b : Bool). has (f w i n) && b) (not_full f w i p n (omega arith) e)
      ∙ and-false (has (f w i n))
]

-- tokens by place
pub all_fill : (image : Image) (slots : MatchStore) (ts : List Token)
    → ((k : ℕ) → k < length ts → fills image slots (token_of (slice_index_or ts k no_token)) ≡ true)
    → AllFill image slots (map token_of ts)
all_fill image slots [] f = tt
all_fill image slots (t ∷ ts) f =
    (f 0 (omega arith), all_fill image slots ts (λ k l. f (suc k) (omega arith)))

pub sent_at : (ts : List Token) (k : ℕ) (t : Token) → k < length ts → t ≡ slice_index_or ts k no_token
    → IsSent (map token_of ts) t.wave t.instr t.port t.value
sent_at (x ∷ ts) (suc k) t l e = inr (sent_at ts k t (omega arith) e)
sent_at ts k t l e = grind arith

pub sent_left : (xs ys : List plain.Token) (w i p v : ℕ) → IsSent xs w i p v → IsSent (xs ++ ys) w i p v
sent_left [] ys w i p v h = absurd h
sent_left (x ∷ xs) ys w i p v (inl h) = inl h
sent_left (x ∷ xs) ys w i p v (inr h) = inr (sent_left xs ys w i p v h)

pub sent_right : (xs ys : List plain.Token) (w i p v : ℕ) → IsSent ys w i p v → IsSent (xs ++ ys) w i p v
sent_right [] ys w i p v h = h
sent_right (x ∷ xs) ys w i p v h = inr (sent_right xs ys w i p v h)

pub fill_both : (image : Image) (slots : MatchStore) (xs ys : List plain.Token) → AllFill image slots xs
    → AllFill image slots ys → AllFill image slots (xs ++ ys)
fill_both image slots [] ys a b = b
fill_both image slots (x ∷ xs) ys a b = (a.0, fill_both image slots xs ys a.1 b)

-- one of the first tokens doesn't fill its instance, or else one of the others, or none
pub quiet_or : (image : Image) (slots : MatchStore) (way : Way) (o : Option Token) (others : List Token)
    → others ≡ way.later.items → AllFill image slots (map token_of way.now.items) →
    MatchOption o (AllFill image slots (map token_of others))
    (λ t. IsSent (map token_of others) t.wave t.instr t.port t.value
    × (fills image slots (token_of t) ≡ false)) →
    MatchOption o (AllFill image slots (way_of way)) (λ t. IsSent (way_of way) t.wave t.instr t.port t.value
    × (fills image slots (token_of t) ≡ false))
quiet_or image slots way o others e all m = grind (arith, fill_both, sent_right)

pub fill_further : (image : Image) (slots : MatchStore) (ts : List Token) (place n : ℕ) → n ≡ suc place
    → fills image slots (token_of (slice_index_or ts place no_token)) ≡ true →
    ((k : ℕ) → n ≤ k → k < length ts → fills image slots (token_of (slice_index_or ts k no_token)) ≡ true)
    → (k : ℕ) → place ≤ k → k < length ts → fills image slots (token_of (slice_index_or ts k no_token))
    ≡ true
fill_further image slots ts place n e full rest k a b = grind (arith, cases_eq)

fills_sent : (image : Image) (slots : MatchStore) (ts : List plain.Token) (w i p v : ℕ)
    → AllFill image slots ts → IsSent ts w i p v
    → fills image slots (record { wave = w; instr = i; port = p; value = v }) ≡ true
fills_sent image slots [] w i p v a h = absurd h
fills_sent image slots (t ∷ ts) w i p v a (inl h) = grind arith
fills_sent image slots (t ∷ ts) w i p v a (inr h) = fills_sent image slots ts w i p v a.1 h

-- an issue fires nothing
pub issue_quiet : (image : Image) (s : State) (w i : ℕ) → IsQuiet image s (Issue w i)
unfolding issue
issue_quiet image s w i t h = grind arith

pub value_is : (a b : ℕ) (o : Option ℕ) → o ≡ Some a → o ≡ Some b → a ≡ b
value_is a b o e f = let g : Some a ≡ Some b = sym e ∙ f in cc

longer : (k : Key) (ks : List Key) → k ∷ ks ≡ ks → ⊥
longer k ks e = let l : length (k ∷ ks) ≡ length ks = ap length e in omega arith

module _ (image : Image) (world : World) (formed : Formed image) (sound : Sound image)
    (taken : List plain.Token) (flow : Flow) (s : State) (h : FlowIs image world taken flow s) (w i p v : ℕ)
    (on_way : s.way w i p ≡ Some v) where
  pub full_is : is_full (arrived s w i p v).held w i (ports image i) ≡ fills image flow.slots
      (record { wave = w; instr = i; port = p; value = v })
  full_is = full_agree (arrived s w i p v).held
      (with_at w i p (Some v) (partial_of flow.slots.slots.items flow.slots.spill)) w i (ports image i)
      (λ q. ap (λ (o : Option ℕ). cond (same_place w i p w i q) (Some v) o)
      (h.stands.held w i q
      (way_unfired image world (facts_of image world (ports_there image formed) sound) s h.stands.fit w i
      p v on_way)))

  waits_fired : fills image flow.slots (record { wave = w; instr = i; port = p; value = v }) ≡ false
      → (matched image s w i p v).fired ≡ s.fired
  unfolding matched
  waits_fired e = grind (arith, full_is)

  match_quiet : fills image flow.slots (record { wave = w; instr = i; port = p; value = v }) ≡ false
      → IsQuiet image s (Match w i p)
  match_quiet e t st = grind (arith, value_is, waits_fired)

  fired_by : (b : Bool)
      → (cond b (asks image w i (arrived s w i p v)) (tells image w i (arrived s w i p v))).fired
      ≡ record { wave = w; instr = i } ∷ s.fired
  fired_by b = grind arith

  fires_fired : fills image flow.slots (record { wave = w; instr = i; port = p; value = v }) ≡ true
      → (matched image s w i p v).fired ≡ record { wave = w; instr = i } ∷ s.fired
  unfolding matched
  fires_fired e = grind (arith, full_is, fired_by)

  match_fires : fills image flow.slots (record { wave = w; instr = i; port = p; value = v }) ≡ true
      → IsQuiet image s (Match w i p) → ⊥
  match_fires e quiet = longer (record { wave = w; instr = i }) s.fired
      (sym (fires_fired e) ∙ quiet (matched image s w i p v)
      (record { value = v; on_way = on_way; becomes = same_refl (matched image s w i p v) }))

pub holds_here : (image : Image) (world : World) (core : Core) (s : State) → IsAt image world core s
    → FlowIs (image_of core.program) world [] core.flow s
holds_here image world core s at = grind arith

pub issue_quietly : (core : Core) (w i : ℕ) → ((image : Image) (world : World) (s : State)
    → IsAt image world core s → Enabled image s (Issue w i)) → IsQuietly (Issue w i) core
issue_quietly core w i enabled image world s at = (enabled image world s at, issue_quiet image s w i)

pub match_quietly : (core : Core) (w i p v : ℕ) → IsSent (way_of core.flow.way) w i p v
    → fills (image_of core.program) core.flow.slots (record { wave = w; instr = i; port = p; value = v })
    ≡ false → IsQuietly (Match w i p) core
match_quietly core w i p v sent e image world s at =
    let h = holds_here image world core s at in
    let on_way = h.stands.way_from w i p v sent in (
      (v, on_way),
      subst (λ (im : Image). IsQuiet im s (Match w i p)) at.image_is
          (match_quiet (image_of core.program) world (subst Formed (sym at.image_is) at.formed)
          (subst Sound (sym at.image_is) at.sound) [] core.flow s h w i p v on_way e),
    )

pub only_fires : (core : Core) → AllFill (image_of core.program) core.flow.slots (way_of core.flow.way)
    → (is_some core.flow.fault ≡ true) ⊎ NoneAskedMay (image_of core.program) core.flow → OnlyFires core
only_fires core all none image world s at (Match w i p) on quiet =
    let h = holds_here image world core s at in
    match_fires (image_of core.program) world (subst Formed (sym at.image_is) at.formed)
    (subst Sound (sym at.image_is) at.sound) [] core.flow s h w i p on.0 on.1
    (fills_sent (image_of core.program) core.flow.slots (way_of core.flow.way) w i p on.0 all
    (h.stands.way_to w i p on.0 on.1))
    (subst (λ (im : Image). IsQuiet im s (Match w i p)) (sym at.image_is) quiet)
only_fires core all (inl f) image world s at (Issue w i) on quiet = both_ways _ on.1.issuable.going
    (at.holds.stopped_is ∙ f)
only_fires core all (inr none) image world s at (Issue w i) on quiet =
    none_enabled (image_of core.program) world [] core.flow s (holds_here image world core s at) none w i
    (subst (λ (im : Image). Enabled im s (Issue w i)) (sym at.image_is) on)

-- what steps is enabled
pub step_enabled : (image : Image) (s t : State) (e : Event) → Step image s e t → Enabled image s e
step_enabled image s t e st = grind arith
