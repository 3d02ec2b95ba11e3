-- An image without one of its instructions: its blocks, numbers and paths.
use Rattle.std.proofs.Common.{ℕ, zero, suc, ◌+◌, ◌-◌, ◌≡◌, ◌<◌, ◌≤◌, ◌⊎◌, Bool, true, false, cond, List, []}
use Rattle.std.proofs.Common.{◌∷◌, ◌++◌, length, Option, Some, None, refl, sym, ap, ◌∙◌, inl, inr, subst}
use Rattle.std.proofs.Common.{arith, eqb, eq-eqb, ne_eqb}
use Rattle.std.proofs.lemmas.Bool.{cases_eq, cases_lt, lt-ltb, le-ltb}
use Rattle.ws_isa.specs.Image.{Instr, Exit, Block, Image, no_block, flat, first_of, instr_at, block_at}
use Rattle.ws_isa.specs.Image.{first_number, is_memory, is_memory_op, leave_to, is_stop, stops, target}
use Rattle.ws_isa.specs.Image.{is_first, IsIn, IsBlock}
use Rattle.ws_isa.specs.Sound.{InWave, first, turn, edge, last_op}
use Rattle.ws_isa.proofs.Blocks.{number_next, number_within, instr_suc}
use Rattle.wave_link.specs.Vain.{moved, instr_but, instrs_but, exit_but, blocks_but, without, FollowsIn}
use Rattle.wave_link.specs.Vain.{EndsIn}
use Rattle.ws_isa.proofs.Counting.{first_one}
use Rattle.ws_words.specs.Items.{nth, or_else}

-- Blocks and edges.

count_but : (x k : ℕ) (bs : List Block) → length (blocks_but x k bs) ≡ length bs
count_but x k [] = refl
count_but x k (b ∷ bs) = ap suc (count_but x (k + length b.instrs) bs)

wave_but : (x k : ℕ) (bs : List Block) (n : ℕ) → (or_else (nth (blocks_but x k bs) n) no_block).wave
    ≡ (or_else (nth bs n) no_block).wave
wave_but x k (b ∷ bs) (suc n) = wave_but x (k + length b.instrs) bs n
wave_but x k bs n = grind arith

exit_there : (x k : ℕ) (bs : List Block) (n : ℕ) → (or_else (nth (blocks_but x k bs) n) no_block).exit
    ≡ exit_but x (or_else (nth bs n) no_block).exit
unfolding no_block
exit_there x k (b ∷ bs) (suc n) = exit_there x (k + length b.instrs) bs n
exit_there x k bs n = grind arith

same_target : (x : ℕ) (e : Exit) (r : ℕ) → leave_to (exit_but x e) r ≡ leave_to e r
same_target x e r = grind arith

same_stop : (x : ℕ) (e : Exit) → is_stop (exit_but x e) ≡ is_stop e
same_stop x e = grind arith

pub wave_kept : (image : Image) (x b : ℕ) → (block_at (without image x) b).wave ≡ (block_at image b).wave
unfolding without block_at
wave_kept image x b = grind (arith, wave_but)

exit_kept : (image : Image) (x b : ℕ) → (block_at (without image x) b).exit ≡ exit_but x
    (block_at image b).exit
unfolding without block_at no_block
exit_kept image x b = grind (arith, exit_there)

pub target_kept : (image : Image) (x b r : ℕ) → target (without image x) b r ≡ target image b r
unfolding target
target_kept image x b r = grind (arith, exit_kept, same_target)

pub stops_kept : (image : Image) (x b : ℕ) → stops (without image x) b ≡ stops image b
unfolding stops
stops_kept image x b = ap is_stop (exit_kept image x b) ∙ same_stop x (block_at image b).exit

pub first_kept : (image : Image) (x b : ℕ) → is_first (without image x) b ≡ is_first image b
unfolding is_first
first_kept image x b = grind (arith, wave_kept)

pub count_kept : (image : Image) (x : ℕ) → length (without image x).blocks ≡ length image.blocks
unfolding without
count_kept image x = count_but x 1 image.blocks

pub block_kept : (image : Image) (x b : ℕ) → IsBlock image b → IsBlock (without image x) b
unfolding without
block_kept image x b h = (h.0, omega (arith, h.1, count_but x 1 image.blocks))

-- Numbers: how many of n instructions from number k on are x.

abbrev hit : ℕ → ℕ → ℕ → ℕ
hit x k zero = 0
hit x k (suc n) = cond (eqb k x) 1 0 + hit x (suc k) n

hit_sum : (x k n m : ℕ) → hit x k (n + m) ≡ hit x k n + hit x (k + n) m
hit_sum x k zero m = grind (arith, hit)
hit_sum x k (suc n) m =
    let e : suc n + m ≡ suc (n + m) = omega arith in grind (arith, hit_sum x (suc k) n m)

hit_behind : (x k n : ℕ) → x < k → hit x k n ≡ 0
hit_behind x k zero l = refl
hit_behind x k (suc n) l = grind (arith, hit, hit_behind x (suc k) n (omega arith))

hit_ahead : (x k n : ℕ) → k + n ≤ x → hit x k n ≡ 0
hit_ahead x k zero l = refl
hit_ahead x k (suc n) l = grind (arith, hit, hit_ahead x (suc k) n (omega arith))

hit_once : (x k n : ℕ) → k ≤ x → x < k + n → hit x k n ≡ 1
hit_once x k zero l h = absurd (omega arith)
hit_once x k (suc n) l h = elim (cases_eq k x) [
  | inl e ↦ grind (arith, eq-eqb, hit_behind)
  | inr d ↦ rw (ne_eqb k x d) (grind (arith, hit_once x (suc k) n (omega arith) (omega arith)))
]

length_but : (x k : ℕ) (is : List Instr) → length (instrs_but x k is) + hit x k (length is) ≡ length is
length_but x k [] = refl
length_but x k (i ∷ is) = grind (arith, hit, length_but x (suc k) is)

first_but : (x k : ℕ) (bs : List Block) (b m : ℕ) → suc m ≡ first_of bs b
    → first_of (blocks_but x k bs) b + hit x k m ≡ first_of bs b
first_but x k (y ∷ ys) (suc b) m e =
    let p : 1 ≤ first_of ys b = positive ys b in
    let n : ℕ = first_of ys b - 1 in
    let f : m ≡ length y.instrs + n = omega arith in
    grind (arith, hit_sum, length_but, first_but x (k + length y.instrs) ys b n (omega arith))
  where
    positive : (bs : List Block) (n : ℕ) → 1 ≤ first_of bs n
    positive (b ∷ bs) (suc n) = let h : 1 ≤ first_of bs n = positive bs n in omega arith
    positive bs n = grind (arith, first_one)
first_but x k bs b m e = grind (arith, first_one)

moved_below : (x k : ℕ) → k ≤ x → moved x k ≡ k
moved_below x k l = rw (le-ltb x k l) refl

moved_above : (x k : ℕ) → x < k → moved x k ≡ k - 1
moved_above x k l = rw (lt-ltb x k l) refl

pub number_kept : (image : Image) (x b : ℕ) → 1 ≤ x → first_number (without image x) b
    ≡ moved x (first_number image b)
unfolding first_number without
number_kept image x zero l = sym (moved_below x 1 l)
number_kept image x (suc b) l = go (cases_lt x (first_of image.blocks b))
  where
    p : 1 ≤ first_of image.blocks b
    p = positive image.blocks b
      where
        positive : (bs : List Block) (n : ℕ) → 1 ≤ first_of bs n
        positive bs zero = let z : first_of bs zero ≡ 1 = first_one bs in omega arith
        positive [] (suc n) = omega arith
        positive (b ∷ bs) (suc n) = let h : 1 ≤ first_of bs n = positive bs n in omega arith

    m : ℕ
    m = first_of image.blocks b - 1

    r : first_of (blocks_but x 1 image.blocks) b + hit x 1 (first_of image.blocks b - 1) ≡ first_of
        image.blocks b
    r = first_but x 1 image.blocks b (first_of image.blocks b - 1) (omega (arith, p))

    go : (x < first_of image.blocks b) ⊎ (first_of image.blocks b ≤ x)
        → first_of (blocks_but x 1 image.blocks) b ≡ moved x (first_of image.blocks b)
    go (inl h) = grind (arith, hit, hit_once, p, r, moved_above)
    go (inr h) = grind (arith, hit, hit_ahead, p, r, moved_below)

-- Instructions.

but_append : (x k : ℕ) (xs ys : List Instr) → instrs_but x k (xs ++ ys) ≡ instrs_but x k xs ++ instrs_but x
    (k + length xs) ys
but_append x k [] ys = grind arith
but_append x k (i ∷ xs) ys = grind (arith, but_append x (suc k) xs ys)

flat_but : (x k : ℕ) (bs : List Block) → flat (blocks_but x k bs) ≡ instrs_but x k (flat bs)
flat_but x k [] = refl
flat_but x k (b ∷ bs) = grind (arith, but_append, flat_but x (k + length b.instrs) bs)

hit_most : (x k n : ℕ) → hit x k n ≤ n
hit_most x k zero = omega arith
hit_most x k (suc n) = grind (arith, hit, hit_most x (suc k) n)

nth_but : (x k : ℕ) (is : List Instr) (n m : ℕ) (i : Instr) → nth is n ≡ Some i → (k + n ≡ x → ⊥)
    → m + hit x k n ≡ n → nth (instrs_but x k is) m ≡ Some (instr_but x i)
nth_but x k (y ∷ ys) (suc n) m i e d h =
    go (cases_eq k x) (λ j q. nth_but x (suc k) ys n j i e (λ r. d (omega arith)) q)
  where
    go : (k ≡ x) ⊎ (k ≡ x → ⊥)
        → ((j : ℕ) → j + hit x (suc k) n ≡ n → nth (instrs_but x (suc k) ys) j ≡ Some (instr_but x i))
        → nth (instrs_but x k (y ∷ ys)) m ≡ Some (instr_but x i)
    go v0 v1 = grind (arith, hit_most)
nth_but x k is n m i e d h = grind arith

instr_moved : (image : Image) (x j : ℕ) (i : Instr) → 1 ≤ x → nth (flat image.blocks) j ≡ Some i
    → (suc j ≡ x → ⊥) → instr_at (without image x) (moved x (suc j)) ≡ instr_but x i
unfolding without
instr_moved image x j i l e d = go (cases_lt x (suc j))
  where
    put : (m : ℕ) → moved x (suc j) ≡ suc m → m + hit x 1 j ≡ j → instr_at (without image x) (moved x (suc j))
        ≡ instr_but x i
    put m f h = instr_suc (without image x) (moved x (suc j)) m (instr_but x i) f
        (grind (arith, flat_but, nth_but))

    go : (x < suc j) ⊎ (suc j ≤ x) → instr_at (without image x) (moved x (suc j)) ≡ instr_but x i
    go (inl h) = let o : hit x 1 j ≡ 1 = hit_once x 1 j l (omega (arith, h)) in
        put (j - 1) (moved_above x (suc j) h ∙ omega (arith, h, l)) (omega (arith, o, h, l))
    go (inr h) = let o : hit x 1 j ≡ 0 = hit_ahead x 1 j (omega (arith, h)) in
        put j (moved_below x (suc j) h) (omega (arith, o))

nth_some : (is : List Instr) (j : ℕ) → j < length is → (i : Instr) × (nth is j ≡ Some i)
nth_some [] j l = absurd (omega arith)
nth_some (i ∷ is) zero l = (i, refl)
nth_some (i ∷ is) (suc j) l = nth_some is j (omega arith)

pub record InFlat (image : Image) (k : ℕ) : Type 0 where
  pub place : ℕ
  pub is : k ≡ suc place
  pub below : place < length (flat image.blocks)

first_positive : (image : Image) (b : ℕ) → IsBlock image b → 1 ≤ first_number image b
unfolding first_number
first_positive image zero h = omega arith
first_positive image (suc b) h = positive image.blocks b
  where
    positive : (bs : List Block) (n : ℕ) → 1 ≤ first_of bs n
    positive (b ∷ bs) (suc n) = let h : 1 ≤ first_of bs n = positive bs n in omega arith
    positive bs n = grind (arith, first_one)

in_flat : (image : Image) (b k : ℕ) → IsBlock image b → IsIn image b k → InFlat image k
in_flat image zero k h i = absurd (omega (arith, h.0))
in_flat image (suc n) zero h i = absurd (omega (arith, first_positive image (suc n) h, i.0))
in_flat image (suc n) (suc j) h i = grind (arith, number_next, number_within)

pub memory_kept : (image : Image) (x b k : ℕ) → 1 ≤ x → IsBlock image b → IsIn image b k → (k ≡ x → ⊥)
    → is_memory (without image x) (moved x k) ≡ is_memory image k
unfolding is_memory
memory_kept image x b k l h i d =
    let f : InFlat image k = in_flat image b k h i in
    let s : (y : Instr) × (nth (flat image.blocks) f.place ≡ Some y) = grind (arith, nth_some) in
    let here : instr_at image k ≡ s.0 = instr_suc image k f.place s.0 f.is s.1 in
    let there : instr_at (without image x) (moved x k) ≡ instr_but x s.0 = grind (arith, instr_moved) in
    ap (λ (y : Instr). is_memory_op y.op) there ∙ ap (λ (y : Instr). is_memory_op y.op) (sym here)

pub moved_one : (x j k : ℕ) → (j ≡ x → ⊥) → (k ≡ x → ⊥) → moved x j ≡ moved x k → j ≡ k
moved_one x j k d f e = grind (arith, cases_lt, moved_above, cases_eq, moved_below)

moved_less : (x k f : ℕ) → (k ≡ x → ⊥) → k < f → moved x k < moved x f
moved_less x k f d l = grind (arith, cases_lt, moved_above, moved_below, cases_eq)

moved_suc : (x k : ℕ) → (k ≡ x → ⊥) → suc (moved x k) ≡ moved x (suc k)
moved_suc x k d = grind (arith, cases_lt, moved_above, cases_eq, moved_below)

moved_self : (x : ℕ) → moved x x ≡ moved x (suc x)
moved_self x = omega (arith, moved_below x x (omega arith), moved_above x (suc x) (omega arith))

-- Paths.

abbrev map_but : ℕ → List ℕ → List ℕ
map_but x [] = []
map_but x (k ∷ ks) = cond (eqb k x) (map_but x ks) (moved x k ∷ map_but x ks)

-- the last operation but x
abbrev pub last_but : Image → ℕ → List ℕ → Option ℕ
last_but image x [] = None
last_but image x (k ∷ ks) = cond (eqb k x) (last_but image x ks)
    (cond (is_memory image k) (Some k) (last_but image x ks))

abbrev pub moved_op : ℕ → Option ℕ → Option ℕ
moved_op x None = None
moved_op x (Some k) = Some (moved x k)

module _ (image : Image) (x : ℕ) (positive : 1 ≤ x) (edges : (b r : ℕ) → IsBlock image b
    → stops image b ≡ false → IsBlock image (target image b r)) where
  abbrev image' : Image
  image' = without image x

  on_path : (b k : ℕ) (done : List ℕ) → InWave image b k done → IsBlock image b × (first_number image b ≤ k)
  on_path b k done (first h f) = (h, omega arith)
  on_path b k done (turn {b = c} {k = i} {done = d} p w) = grind (arith, on_path c i d p)
  on_path b k done (edge {b = c} {k = i} {done = d} p e s r f) = grind (arith, on_path c i d p)

  pub record Kept (b k : ℕ) (done : List ℕ) : Type 0 where
    pub path : InWave image' b (moved x k) (map_but x done)
    pub last : last_op image' (map_but x done) ≡ moved_op x (last_but image x done)

  kept_by : (b k : ℕ) (done ms : List ℕ) (o : Option ℕ) → map_but x done ≡ ms → last_but image x done ≡ o
      → InWave image' b (moved x k) ms → last_op image' ms ≡ moved_op x o → Kept b k done
  kept_by b k done ms o e f p l = grind (arith, image', moved_op)

  kept_turn : (b k : ℕ) (done : List ℕ) → IsBlock image b → IsIn image b k → Kept b k done
      → Kept b (suc k) (k ∷ done)
  kept_turn b k done h i p = go (cases_eq k x)
    where
      go : (k ≡ x) ⊎ (k ≡ x → ⊥) → Kept b (suc k) (k ∷ done)
      go (inl e) = grind (arith, moved_self, kept_by)
      go (inr d) =
          let lt : moved x k < first_number image' (suc b) = grind (arith, number_kept, moved_less) in
          let t : InWave image' b (suc (moved x k)) (moved x k ∷ map_but x done) = turn p.path lt in
          kept_by b (suc k) (k ∷ done) (moved x k ∷ map_but x done)
          (cond (is_memory image k) (Some k) (last_but image x done)) (rw (ne_eqb k x d) refl)
          (rw (ne_eqb k x d) refl)
          (rw (moved_suc x k d) at t)
          (grind (arith, memory_kept))
        where
          pick : (v : Bool) → cond v (Some (moved x k)) (last_op image' (map_but x done)) ≡ moved_op x
              (cond v (Some k) (last_but image x done))
          pick v = grind arith

  pub kept : (b k : ℕ) (done : List ℕ) → InWave image b k done → Kept b k done
  kept b k done (first h f) = record {
    path = subst (λ (j : ℕ). InWave image' b j []) (number_kept image x b positive)
        (first (block_kept image x b h) (first_kept image x b ∙ f));
    last = refl;
  }
  kept b k done (turn {b = c} {k = i} {done = d} p w) = let o = on_path c i d p in
      kept_turn c i d o.0 (o.1, w) (kept c i d p)
  kept b k done (edge {b = c} {k = i} {done = d} p e s r f) =
      let q : Kept c i d = kept c i d p in
      let t : target image' c r ≡ target image c r = target_kept image x c r in
      let g : InWave image' (target image' c r) (first_number image' (target image' c r)) (map_but x d) =
      edge q.path (ap (moved x) e ∙ sym (number_kept image x (suc c) positive)) (stops_kept image x c ∙ s) r
      (first_kept image x (target image' c r) ∙ (ap (is_first image) t ∙ f)) in
      grind (arith, number_kept)

  -- operation k comes on a path, right after this one but for x
  pub record Comes (w : ℕ) (last : Option ℕ) (k : ℕ) : Type 0 where
    pub block : ℕ
    pub done : List ℕ
    pub path : InWave image block k done
    pub within : k < first_number image (suc block)
    pub memory : is_memory image k ≡ true
    pub other : k ≡ x → ⊥
    pub last_is : last_but image x done ≡ last
    pub wave_is : (block_at image block).wave ≡ w

  pub follows : (w : ℕ) (last : Option ℕ) (k : ℕ) → Comes w last k → FollowsIn image' w (moved_op x last)
      (moved x k)
  follows w last k c =
      let p : Kept c.block k c.done = kept c.block k c.done c.path in
      let o : IsBlock image c.block × (first_number image c.block ≤ k) = on_path c.block k c.done c.path in
      record {
        follows = grind (arith, number_kept, moved_less, memory_kept);
        wave_is = wave_kept image x c.block ∙ c.wave_is;
      }

  -- a path ends after this operation, but for x
  pub record Stops (w : ℕ) (last : Option ℕ) : Type 0 where
    pub block : ℕ
    pub done : List ℕ
    pub path : InWave image block (first_number image (suc block)) done
    pub out : (stops image block ≡ true)
        ⊎ ((stops image block ≡ false) × ((r : ℕ) × (is_first image (target image block r) ≡ true)))
    pub last_is : last_but image x done ≡ last
    pub wave_is : (block_at image block).wave ≡ w

  pub ends : (w : ℕ) (last : Option ℕ) → Stops w last → EndsIn image' w (moved_op x last)
  ends w last c =
      let f : ℕ = first_number image (suc c.block) in
      let p : Kept c.block f c.done = kept c.block f c.done c.path in
      record {
        ends = grind (arith, number_kept, stops_kept, first_kept, target_kept);
        wave_is = wave_kept image x c.block ∙ c.wave_is;
      }
