-- Tables that are filled block by block, and what a place of one holds.
use Rattle.std.proofs.Common.{ℕ, zero, suc, ◌+◌, ◌≡◌, ◌<◌, ◌≤◌, ◌⊎◌, Bool, false, cond, List, [], ◌∷◌, length}
use Rattle.std.proofs.Common.{get_or, Option, Some, None, refl, sym, ap, ◌∙◌, inr, arith, eqb}
use Rattle.std.specs.Prelude.{set}
use Rattle.std.proofs.lemmas.Bool.{cases_eq}
use Rattle.std.proofs.lemmas.List.{length-set, get_or-set_same, get_or-set_other}
use Rattle.ws_isa.specs.declared.instr.Link.{Link}
use Rattle.ws_isa.specs.declared.instr.Link.TheVariants.{Unknown, Nothing, Is}
use Rattle.wave_link.specs.declared.outline.Way.{Way}
use Rattle.wave_link.specs.declared.outline.Way.TheVariants.{Out, On, Fork}
use Rattle.wave_link.specs.declared.outline.Outline.{Outline}
use Rattle.wave_link.specs.declared.links.Behind.{Behind}
use Rattle.wave_link.specs.declared.states.Ways.{Ways}
use Rattle.wave_link.specs.declared.states.Ways.TheVariants.{Zero}
use Rattle.wave_link.specs.declared.states.LastOps.{LastOps}
use Rattle.wave_link.specs.declared.states.LastOps.TheVariants.{Shared, Sole}
use Rattle.wave_link.specs.States.{more, enter_way, ways_step, ways_from, needs_nop, spread_state}
use Rattle.wave_link.specs.States.{states_step, states_from}
use Rattle.wave_link.specs.Notes.{both, low_at, lows_from, head_at, out_link, head_link, heads_from, joined}
use Rattle.wave_link.specs.Notes.{behind_in, hand_way, hand_all, place_at, places_from}
use Rattle.wave_link.specs.Grown.{no_place}
use Rattle.ws_words.specs.Items.{nth, or_else}

abbrev pub no_outline : Outline
no_outline = record { first = false; ops = 0; writer = 0; way = Out }

abbrev pub outline_in : List Outline → ℕ → Outline
outline_in xs n = or_else (nth xs n) no_outline

-- a table after n steps, the first of which is that of block b
abbrev pub stepped : {T : Type 0} → (Outline → ℕ → T → T) → List Outline → ℕ → ℕ → T → T
stepped f xs b zero t = t
stepped f [] b (suc n) t = t
stepped f (x ∷ xs) b (suc n) t = stepped f xs (suc b) n (f x b t)

pub stepped_next : {T : Type 0} (f : Outline → ℕ → T → T) (xs : List Outline) (b n m : ℕ) (t : T)
    → n < length xs → m ≡ b + n → stepped f xs b (suc n) t ≡ f (outline_in xs n) m (stepped f xs b n t)
stepped_next f (x ∷ xs) b (suc n) m t l e =
    grind (arith, stepped_next f xs (suc b) n m (f x b t) (omega arith) (omega arith))
stepped_next f xs b n m t l e = grind arith

pub ways_are : (xs : List Outline) (b : ℕ) (t : List Ways) → ways_from xs b t ≡ stepped ways_step xs b
    (length xs) t
ways_are [] b t = refl
ways_are (x ∷ xs) b t = ways_are xs (suc b) (ways_step x b t)

pub nop_at_place : (xs : List Outline) (b n m : ℕ) (ways : List Ways) (t : List LastOps) → n < length xs
    → m ≡ b + n →
    get_or (states_from xs b ways t) n false ≡ needs_nop (outline_in xs n) m ways
    (stepped (λ (x : Outline) (k : ℕ) (s : List LastOps). states_step x k ways s) xs b n t)
nop_at_place (x ∷ xs) b (suc n) m ways t l e = nop_at_place xs (suc b) n m ways (states_step x b ways t)
    (omega arith) (omega arith)
nop_at_place xs b n m ways t l e = grind arith

-- the step of the table of what came before
abbrev pub behind_step : List ℕ → Outline → ℕ → List (Option Behind) → List (Option Behind)
behind_step lows x b t = hand_all x (get_or lows b 0) (behind_in x b t) t

pub place_there : (xs : List Outline) (b n m : ℕ) (lows : List ℕ) (heads : List Link)
    (t : List (Option Behind)) → n < length xs → m ≡ b + n →
    get_or (places_from xs b lows heads t) n no_place ≡ place_at (outline_in xs n) m (get_or lows m 0) heads
    (stepped (behind_step lows) xs b n t)
place_there (x ∷ xs) b (suc n) m lows heads t l e = place_there xs (suc b) n m lows heads
    (hand_all x (get_or lows b 0) (behind_in x b t) t) (omega arith) (omega arith)
place_there xs b n m lows heads t l e = grind arith

pub low_next : (xs : List Outline) (n l : ℕ) → suc n < length xs → get_or (lows_from xs l) (suc n) 0
    ≡ low_at (outline_in xs (suc n)) (get_or (lows_from xs l) n 0 + (outline_in xs n).ops)
low_next (x ∷ y ∷ xs) (suc n) l h = low_next (y ∷ xs) n (low_at x l + x.ops) (omega arith)
low_next xs n l h = grind arith

-- Where a way leads.

abbrev pub Leads : Way → ℕ → Type 0
Leads Out c = ⊥
Leads (On b) c = c ≡ b
Leads (Fork a b) c = (c ≡ a) ⊎ (c ≡ b)

pub leads : (w : Way) (c : ℕ) → Leads w c ⊎ (Leads w c → ⊥)
leads Out c = inr (λ h. h)
leads (On b) c = cases_eq c b
leads (Fork a b) c = grind (arith, cases_eq)

-- the two places of a fork differ
abbrev pub Parts : Way → Type 0
Parts (Fork a b) = a ≡ b → ⊥
Parts _ = Unit {0}

same_place : {A : Type 0} (t : List A) (b c : ℕ) (x d : A) → c ≡ b → c < length t → get_or (set t b x) c d ≡ x
same_place t b c x d e l = rw (sym e) (get_or-set_same t c x d l)

pub hit_ways : (w : Way) (c : ℕ) (t : List Ways) → Parts w → Leads w c → c < length t
    → get_or (enter_way w t) c Zero ≡ more (get_or t c Zero)
hit_ways w c t p h l = grind (arith, get_or-set_same, get_or-set_other, same_place, length-set)

pub miss_ways : (w : Way) (c : ℕ) (t : List Ways) → (Leads w c → ⊥) → get_or (enter_way w t) c Zero ≡ get_or t
    c Zero
miss_ways w c t n = grind (arith, get_or-set_other)

pub ways_length : (w : Way) (t : List Ways) → length (enter_way w t) ≡ length t
ways_length w t = grind (arith, length-set)

-- the state that a way hands on
abbrev pub handed : Way → Bool → LastOps → LastOps
handed (On b) full s = cond full Sole s
handed _ full s = Shared

pub hit_states : (w : Way) (c : ℕ) (full : Bool) (s : LastOps) (t : List LastOps) → Leads w c → c < length t
    → get_or (spread_state w full s t) c Shared ≡ handed w full s
hit_states w c full s t h l = grind (arith, same_place, cases_eq, length-set, get_or-set_other)

pub miss_states : (w : Way) (c : ℕ) (full : Bool) (s : LastOps) (t : List LastOps) → (Leads w c → ⊥)
    → get_or (spread_state w full s t) c Shared ≡ get_or t c Shared
miss_states w c full s t n = grind (arith, get_or-set_other)

pub states_length : (w : Way) (full : Bool) (s : LastOps) (t : List LastOps)
    → length (spread_state w full s t) ≡ length t
states_length w full s t = grind (arith, length-set)

pub hit_behind : (w : Way) (c : ℕ) (y : Behind) (t : List (Option Behind)) → Parts w → Leads w c
    → c < length t → get_or (hand_way w y t) c None ≡ Some (joined (get_or t c None) y)
hit_behind w c y t p h l = grind (arith, get_or-set_same, get_or-set_other, same_place, length-set)

pub miss_behind : (w : Way) (c : ℕ) (y : Behind) (t : List (Option Behind)) → (Leads w c → ⊥)
    → get_or (hand_way w y t) c None ≡ get_or t c None
miss_behind w c y t n = grind (arith, get_or-set_other)

pub behind_length : (w : Way) (y : Behind) (t : List (Option Behind)) → length (hand_way w y t) ≡ length t
behind_length w y t = grind (arith, length-set)

-- What comes next: the table from the last block to the first.

pub heads_length : (xs : List Outline) (lows : List ℕ) (b : ℕ) (h : List Link)
    → length (heads_from xs lows b h) ≡ length h
heads_length [] lows b h = refl
heads_length (x ∷ xs) lows b h = grind (arith, length-set, heads_length xs lows (suc b) h)

same_out : (w : Way) (t u : List Link) → ((c : ℕ) → Leads w c → head_at t c ≡ head_at u c)
    → out_link w t ≡ out_link w u
same_out w t u h = grind arith

same_head : (x : Outline) (low : ℕ) (t u : List Link) → ((c : ℕ) → Leads x.way c → head_at t c ≡ head_at u c)
    → head_link x low t ≡ head_link x low u
same_head x low t u h = ap (λ (k : Link). cond (eqb x.ops 0) k (Is (low + 1))) (same_out x.way t u h)

pub head_there : (xs : List Outline) (lows : List ℕ) (b n m : ℕ) (h : List Link) → n < length xs → m ≡ b + n
    → b + length xs ≤ length h →
    ((i c : ℕ) → i < length xs → Leads (outline_in xs i).way c → b + i < c) →
    head_at (heads_from xs lows b h) m ≡ head_link (outline_in xs n) (get_or lows m 0)
    (heads_from xs lows b h)
head_there (x ∷ xs) lows b (suc n) m h l e w later =
    let r : List Link = heads_from xs lows (suc b) h in
    let f : List Link = set r b (head_link x (get_or lows b 0) r) in
    let rec : head_at r m ≡ head_link (outline_in xs n) (get_or lows m 0) r =
    head_there xs lows (suc b) n m h (omega arith) (omega arith) (omega arith)
    (λ i c q k. (let lt : b + suc i < c = later (suc i) c (omega arith) k in omega (arith, lt))) in
    get_or-set_other r b m (head_link x (get_or lows b 0) r) Unknown (λ d. absurd (omega arith))
    ∙ (rec ∙ same_head (outline_in xs n) (get_or lows m 0) r f (λ c k.
    (let lt : b + suc n < c = later (suc n) c (omega arith) k in
    sym (grind (arith, get_or-set_other)))))
head_there xs lows b n m h l e w later = grind (
  arith,
  heads_length,
  get_or-set_same,
  same_head,
  get_or-set_other,
)

-- Links.

-- the link that names operation n, or nothing for 0
abbrev pub exact : ℕ → Link
exact n = cond (eqb n 0) Nothing (Is n)

pub both_says : (p q : Link) → (both p q ≡ Unknown) ⊎ ((both p q ≡ p) × (p ≡ q))
both_says p q = grind (arith, cases_eq)
