-- Lemmas on the blocks of a graph and their lists.
use Rattle.std.proofs.Common.{◌≡◌, length, ap, arith, ℕ, List, [], ◌∷◌, set, refl, ◌∙◌, suc, inl, inr}
use Rattle.std.proofs.Common.{◌++◌, zero, ◌≤◌, ◌+◌, Bool, true, if◌then◌else◌}
use Rattle.std.proofs.lemmas.List.{length-map, length-set}
use Rattle.cfg_core.specs.Graph.{spots, Term, Spot, no_spot, Block, spots_in, Graph, GraphProc, spot_at}
use Rattle.cfg_core.specs.View as view
use Rattle.cfg_core.specs.Listed.{spot_in_code, spot_in_graph, rooms_from}
use Rattle.cfg_core.specs.declared.table.GraphTable.{GraphTable}
use Rattle.cfg_core.specs.Walk.{landed, values}
use Rattle.std.specs.List.{AllByRecursion, filter}
use Rattle.ws_words.specs.Items.{nth, or_else, In}
use Rattle.cfg_core.specs.Tables.{graph_in}
use Rattle.cfg_core.specs.Rules.{BlockNumbers, IsGraph}

pub count_is : (table : GraphTable) → length table.spots.items
    ≡ length (spots (view.graph (graph_in table)))
count_is table = grind (arith, spot_in_code, spot_in_graph, length-map, table.spots.items)

pub landed_count : (names words vars : List ℕ) → length (landed names words vars) ≡ length vars
landed_count (x ∷ names) (w ∷ words) vars = grind (arith, length-set, landed_count names words (set vars x w))
landed_count names words vars = grind arith

pub values_count : (ts : List Term) (vars : List ℕ) (cells : List (List ℕ))
    → length (values ts vars cells) ≡ length ts
values_count [] vars cells = refl
values_count (t ∷ ts) vars cells = ap suc (values_count ts vars cells)

pub all_from : (P : ℕ → Type 0) (xs : List ℕ) → ((x : ℕ) → In x xs → P x) → AllByRecursion P xs
all_from P [] h = tt
all_from P (x ∷ xs) h = (h x (inl refl), all_from P xs (λ y i. h y (inr i)))

pub past : (xs : List Spot) (k : ℕ) → length xs ≤ k → or_else (nth xs k) no_spot ≡ no_spot
past (x ∷ xs) (suc k) le = past xs k (omega arith)
past xs k le = grind arith

pub nth_right : {A : Type 0} (xs ys : List A) (n k m : ℕ) → length xs ≡ n → m ≡ n + k
    → nth (xs ++ ys) m ≡ nth ys k
nth_right (x ∷ xs) ys (suc n) k (suc m) e em = nth_right xs ys n k m (omega (arith, e)) (omega (arith, em))
nth_right xs ys n k m e em = grind arith

pub spots_in_both : (home vars : ℕ) (xs ys : List Block) → spots_in home vars (xs ++ ys) ≡ spots_in home vars
    xs ++ spots_in home vars ys
spots_in_both home vars [] ys = refl
spots_in_both home vars (x ∷ xs) ys =
    ap (λ (zs : List Spot). record { home = home; vars = vars; block = x } ∷ zs)
    (spots_in_both home vars xs ys)

pub in_filter : (p : ℕ → Bool) (xs : List ℕ) (x : ℕ) → In x xs → p x ≡ true → In x (filter p xs)
in_filter p [] x h e = absurd h
in_filter p (y ∷ xs) x h e = by_test (p y) refl h (λ i. in_filter p xs x i e)
  where
    by_test : (b : Bool) → p y ≡ b → In x (y ∷ xs) → (In x xs → In x (filter p xs))
        → In x (if b then y ∷ filter p xs else filter p xs)
    by_test b ey h rest = grind arith

pub filter_in : (p : ℕ → Bool) (xs : List ℕ) (x : ℕ) → In x (filter p xs) → In x xs × (p x ≡ true)
filter_in p [] x h = absurd h
filter_in p (y ∷ xs) x h = by_test (p y) refl h (λ i. filter_in p xs x i)
  where
    by_test : (b : Bool) → p y ≡ b → In x (if b then y ∷ filter p xs else filter p xs)
        → (In x (filter p xs) → In x xs × (p x ≡ true)) → In x (y ∷ xs) × (p x ≡ true)
    by_test b ey i rest = grind arith

pub spot_beyond : (g : Graph) (b : ℕ) → length (spots g) ≤ b → spot_at g b ≡ no_spot
unfolding spot_at
spot_beyond g b le = past (spots g) b le

rooms_count : (first : ℕ) (procs : List GraphProc) → length (rooms_from first procs) ≡ length procs
rooms_count first [] = refl
rooms_count first (p ∷ procs) = ap suc (rooms_count (first + length p.blocks) procs)

pub rooms_are : (table : GraphTable) → length table.rooms.items
    ≡ length (view.graph (graph_in table)).procs
rooms_are table = ap length table.rooms_listed ∙ rooms_count 0 (view.graph (graph_in table)).procs

-- what is kept of all items is kept of the one at a place, and of what stands for one that isn't there
pub each_at : {A : Type 0} (P : A → Type 0) (xs : List A) (none : A) → AllByRecursion P xs → P none → (k : ℕ)
    → P (or_else (nth xs k) none)
each_at P [] none h p k = p
each_at P (x ∷ xs) none h p zero = h.0
each_at P (x ∷ xs) none h p (suc k) = each_at P xs none h.1 p k

-- what a block names exists
pub numbers_at : (g : Graph) → IsGraph g → (b : ℕ) → BlockNumbers g (spot_at g b)
unfolding spot_at no_spot
numbers_at g rules b = each_at (BlockNumbers g) (spots g) no_spot rules.numbers.blocks
    (record { ops = tt; exit = tt; named = tt; once = tt }) b
