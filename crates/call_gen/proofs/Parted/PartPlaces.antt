-- Where the blocks and procedures of a graph's part stand.
use Rattle.std.proofs.Common.{ℕ, zero, suc, ◌+◌, ◌-◌, ◌≡◌, ◌<◌, ◌≤◌, Bool, true, false, if◌then◌else◌, List}
use Rattle.std.proofs.Common.{[], ◌∷◌, ◌++◌, length, refl, sym, ap, ◌∙◌, Some, arith}
use Rattle.std.specs.List.{AllByRecursion}
use Rattle.std.proofs.lemmas.Bool.{cases_lt}
use Rattle.cfg_core.specs.Graph.{Exit, Block, GraphProc, Spot, spots_in, spots_from, no_proc, entry_from}
use Rattle.cfg_core.specs.Rules.{ProcNumbers}
use Rattle.call_gen.specs.Part.{before, part_block, part_blocks, part_proc, part_procs}
use Rattle.cfg_core.proofs.Spots.{nth_right}
use Rattle.ws_words.specs.Items.{nth, or_else}
use Rattle.ws_words.proofs.Places.{nth_append_left}

-- Counts of what is kept.

pub before_more : (keep : ℕ → Bool) (b d c : ℕ) → c ≡ b + d → before keep b ≤ before keep c
before_more keep b (suc d) (suc c) e = omega (arith, before_more keep b d c (omega arith))
before_more keep b d c e = grind arith

-- one that is kept counts
pub before_kept : (keep : ℕ → Bool) (b : ℕ) → keep b ≡ true → before keep (suc b) ≡ suc (before keep b)
before_kept keep b k = ap (λ (v : Bool). before keep b + (if v then 1 else 0)) k ∙ (omega arith)

-- one that isn't kept doesn't
pub before_dropped : (keep : ℕ → Bool) (b : ℕ) → keep b ≡ false → before keep (suc b) ≡ before keep b
before_dropped keep b k = ap (λ (v : Bool). before keep b + (if v then 1 else 0)) k ∙ (omega arith)

pub before_less : (keep : ℕ → Bool) (b c : ℕ) → keep b ≡ true → b < c → before keep b < before keep c
before_less keep b zero k lt = absurd (omega arith)
before_less keep b (suc c) k lt =
    grind (arith, before_more keep (suc b) (suc c - suc b) (suc c) (omega arith), before_kept keep b k)

-- what is kept has a number of its own
pub before_apart : (keep : ℕ → Bool) (b c : ℕ) → keep b ≡ true → keep c ≡ true → before keep b ≡ before keep c
    → b ≡ c
before_apart keep b c kb kc e = grind (arith, cases_lt, before_less)

-- the order is kept
pub before_order : (keep : ℕ → Bool) (b c : ℕ) → keep b ≡ true → keep c ≡ true → before keep b ≤ before keep c
    → b ≤ c
before_order keep b c kb kc le = grind (arith, cases_lt, before_less)

pub before_most : (keep : ℕ → Bool) (n : ℕ) → before keep n ≤ n
before_most keep zero = omega arith
before_most keep (suc n) = grind (arith, before_most keep n)

length_if : {A : Type 0} (v : Bool) (x : A) (xs : List A) → length (if v then x ∷ xs else xs)
    ≡ (if v then 1 else 0) + length xs
length_if v x xs = grind arith

module _ (keep : ℕ → Bool) (name : Exit → Exit) where
  pub blocks_count : (b : ℕ) (xs : List Block) → length (part_blocks keep name b xs) + before keep b
      ≡ before keep (b + length xs)
  blocks_count b [] = let z : b + 0 ≡ b = omega arith in omega (arith, ap (before keep) z)
  blocks_count b (x ∷ xs) = grind (arith, length_if, blocks_count (suc b) xs)

  module _ (home : ℕ → ℕ) where
    abbrev pub part_spot : Spot → Spot
    part_spot s = record { home = home s.home; vars = s.vars; block = part_block name s.block }

    -- of blocks, the first of which has this number, those that are kept
    abbrev pub part_spots : ℕ → List Spot → List Spot
    part_spots b [] = []
    part_spots b (s ∷ ss) = if keep b then part_spot s ∷ part_spots (suc b) ss else part_spots (suc b) ss

    spots_if : (f vars : ℕ) (v : Bool) (x : Block) (xs : List Block) (ss : List Spot)
        → spots_in (home f) vars xs ≡ ss → spots_in (home f) vars (if v then part_block name x ∷ xs else xs)
        ≡ (if v then part_spot (record { home = f; vars = vars; block = x }) ∷ ss else ss)
    spots_if f vars v x xs ss e = grind arith

    spots_blocks : (f vars b : ℕ) (xs : List Block) → spots_in (home f) vars (part_blocks keep name b xs)
        ≡ part_spots b (spots_in f vars xs)
    spots_blocks f vars b [] = refl
    spots_blocks f vars b (x ∷ xs) = grind (arith, spots_if, part_spots, spots_blocks f vars (suc b) xs)

    part_both : (b n : ℕ) (xs ys : List Spot) → n ≡ b + length xs → part_spots b (xs ++ ys) ≡ part_spots b xs
        ++ part_spots n ys
    part_both b n [] ys e = ap (λ k. part_spots k ys) (let z : b ≡ n = omega arith in z)
    part_both b n (x ∷ xs) ys e = grind (arith, part_both (suc b) n xs ys (omega arith))

    none_kept : (b : ℕ) (ss : List Spot) → ((i : ℕ) (s : Spot) → nth ss i ≡ Some s → keep (b + i) ≡ false)
        → part_spots b ss ≡ []
    none_kept b [] h = refl
    none_kept b (s ∷ ss) h =
        let z : b + 0 ≡ b = omega arith in
        none (keep b) (ap keep (sym z) ∙ h 0 s refl)
        (none_kept (suc b) ss (λ i t e. let y : suc b + i ≡ b + suc i = omega arith in
        ap keep y ∙ h (suc i) t e))
      where
        none : (v : Bool) → v ≡ false → part_spots (suc b) ss ≡ []
            → (if v then part_spot s ∷ part_spots (suc b) ss else part_spots (suc b) ss) ≡ []
        none v e h = grind arith

    -- a block that is kept stands after those kept before it
    pub part_at : (b : ℕ) (ss : List Spot) (i j : ℕ) (s : Spot) → nth ss i ≡ Some s → keep (b + i) ≡ true
        → j + before keep b ≡ before keep (b + i) → nth (part_spots b ss) j ≡ Some (part_spot s)
    part_at b (x ∷ ss) (suc i) j s e k ej =
        let z : suc b + i ≡ b + suc i = omega arith in
        later (keep b) refl j (omega (arith, ej, ap (before keep) z))
        (λ m em. part_at (suc b) ss i m s e (ap keep z ∙ k) em)
      where
        later : (v : Bool) → keep b ≡ v → (j : ℕ) → j + before keep b ≡ before keep (suc b + i)
            → ((m : ℕ) → m + before keep (suc b) ≡ before keep (suc b + i)
            → nth (part_spots (suc b) ss) m ≡ Some (part_spot s))
            → nth (if v then part_spot x ∷ part_spots (suc b) ss else part_spots (suc b) ss) j
            ≡ Some (part_spot s)
        later true ev zero h rest =
            absurd (omega (arith, h, before_more keep (suc b) i (suc b + i) refl, before_kept keep b ev))
        later true ev (suc j) h rest = rest j (omega (arith, h, before_kept keep b ev))
        later false ev j h rest = rest j (omega (arith, h, before_dropped keep b ev))
    part_at b ss i j s e k ej = grind arith

    -- each block of the part is one that is kept
    pub record From (b : ℕ) (ss : List Spot) (j : ℕ) : Type 0 where
      pub place : ℕ
      pub there : place < length ss
      pub kept : keep (b + place) ≡ true
      pub is : j + before keep b ≡ before keep (b + place)

    from_later : (b : ℕ) (x : Spot) (ss : List Spot) (i j : ℕ) → i + before keep (suc b) ≡ j + before keep b
        → From (suc b) ss i → From b (x ∷ ss) j
    from_later b x ss i j e r = let z : suc b + r.place ≡ b + suc r.place = omega arith in grind arith

    pub part_from : (b : ℕ) (ss : List Spot) (j : ℕ) → j < length (part_spots b ss) → From b ss j
    part_from b [] j lt = absurd (omega arith)
    part_from b (x ∷ ss) j lt = at (keep b) refl j lt (λ m lm. part_from (suc b) ss m lm)
      where
        at : (v : Bool) → keep b ≡ v → (j : ℕ)
            → j < length (if v then part_spot x ∷ part_spots (suc b) ss else part_spots (suc b) ss)
            → ((m : ℕ) → m < length (part_spots (suc b) ss) → From (suc b) ss m) → From b (x ∷ ss) j
        at true ev zero lt rest = grind arith
        at true ev (suc j) lt rest = from_later b x ss j (suc j) (omega (arith, before_kept keep b ev))
            (rest j (omega (arith, lt)))
        at false ev j lt rest = from_later b x ss j j (omega (arith, before_dropped keep b ev)) (rest j lt)

  in_blocks : (f vars : ℕ) (xs : List Block) (i : ℕ) (s : Spot) → nth (spots_in f vars xs) i ≡ Some s
      → s.home ≡ f
  in_blocks f vars (x ∷ xs) (suc i) s e = in_blocks f vars xs i s e
  in_blocks f vars xs i s e = grind arith

  in_count : (f vars : ℕ) (xs : List Block) → length (spots_in f vars xs) ≡ length xs
  in_count f vars [] = refl
  in_count f vars (x ∷ xs) = ap suc (in_count f vars xs)

  bound : {A : Type 0} (xs : List A) (k : ℕ) (x : A) → nth xs k ≡ Some x → k < length xs
  bound (y ∷ xs) (suc k) x e = omega (arith, bound xs k x e)
  bound xs k x e = grind arith

  module _ (kept : ℕ → Bool) where
    abbrev home : ℕ → ℕ
    home = before kept

    -- A procedure is kept where its first block is, and with each block its procedure.
    pub record Whole (f b : ℕ) (ps : List GraphProc) : Type 0 where
      pub firsts : (e : ℕ) → e < length ps → kept (f + e) ≡ keep (entry_from b ps e)
      pub homes : (i : ℕ) (s : Spot) → nth (spots_from f ps) i ≡ Some s → keep (b + i) ≡ true
          → kept s.home ≡ true

    whole_first : (f b : ℕ) (p : GraphProc) (ps : List GraphProc) → Whole f b (p ∷ ps) → kept f ≡ keep b
    whole_first f b p ps w = let z : f ≡ f + 0 = omega arith in ap kept z ∙ w.firsts 0 (omega arith)

    whole_later : (f b : ℕ) (p : GraphProc) (ps : List GraphProc) → Whole f b (p ∷ ps)
        → Whole (suc f) (b + length p.blocks) ps
    whole_later f b p ps w = record {
      firsts = λ e lt. let z : suc f + e ≡ f + suc e = omega arith in grind arith;
      homes = λ i s e k.
          let z : (b + length p.blocks) + i ≡ b + (length p.blocks + i) = omega arith in
          w.homes (length p.blocks + i) s (grind (arith, nth_right, in_count))
          (ap keep (sym z) ∙ k);
    }

    -- of a procedure that isn't kept no block is
    whole_none : (f b : ℕ) (p : GraphProc) (ps : List GraphProc) → Whole f b (p ∷ ps) → keep b ≡ false
        → (i : ℕ) (s : Spot) → nth (spots_in f p.vars p.blocks) i ≡ Some s → keep (b + i) ≡ false
    whole_none f b p ps w off i s e = grind (arith, bound, nth_append_left, in_blocks, whole_first)

    none_counted : (f b : ℕ) (p : GraphProc) (ps : List GraphProc) → Whole f b (p ∷ ps) → keep b ≡ false
        → before keep (b + length p.blocks) ≡ before keep b
    none_counted f b p ps w off =
        let c = blocks_count b p.blocks in
        let e : length (part_blocks keep name b p.blocks) ≡ 0 = sym (grind (arith, in_count)) ∙ ap length
        (spots_blocks home f p.vars b p.blocks) ∙ ap length (none_kept home b (spots_in f p.vars p.blocks)
        (whole_none f b p ps w off)) in
        omega arith

    -- the blocks of the part
    pub spots_part : (f b : ℕ) (ps : List GraphProc) → Whole f b ps
        → spots_from (home f) (part_procs keep name b ps) ≡ part_spots home b (spots_from f ps)
    spots_part f b [] w = refl
    spots_part f b (p ∷ ps) w =
        let n = b + length p.blocks in
        let rest = spots_part (suc f) n ps (whole_later f b p ps w) in
        let count : n ≡ b + length (spots_in f p.vars p.blocks) = grind (arith, in_count) in
        by_test (keep b) refl rest ∙ sym (grind (arith, part_both))
      where
        by_test : (v : Bool) → keep b ≡ v
            → spots_from (home (suc f)) (part_procs keep name (b + length p.blocks) ps) ≡ part_spots home
            (b + length p.blocks) (spots_from (suc f) ps)
            → spots_from (home f) (if v then part_proc keep name b p ∷ part_procs keep name
            (b + length p.blocks) ps else part_procs keep name (b + length p.blocks) ps)
            ≡ part_spots home b (spots_in f p.vars p.blocks) ++ part_spots home (b + length p.blocks)
            (spots_from (suc f) ps)
        by_test true ev rest =
            let up : home (suc f) ≡ suc (home f) = before_kept kept f (whole_first f b p ps w ∙ ev) in
            ap (λ (zs : List Spot). zs ++ spots_from (suc (home f))
            (part_procs keep name (b + length p.blocks) ps)) (spots_blocks home f p.vars b p.blocks)
            ∙ ap (λ k. part_spots home b (spots_in f p.vars p.blocks) ++ spots_from k
            (part_procs keep name (b + length p.blocks) ps)) (sym up)
            ∙ ap (λ (zs : List Spot). part_spots home b (spots_in f p.vars p.blocks) ++ zs) rest
        by_test false ev rest = let same : home (suc f) ≡ home f = grind (arith, whole_first) in
            ap (λ k. spots_from k (part_procs keep name (b + length p.blocks) ps)) (sym same) ∙ rest ∙ ap (λ
            (zs : List Spot). zs ++ part_spots home (b + length p.blocks) (spots_from (suc f) ps)) (sym
            (none_kept home b (spots_in f p.vars p.blocks) (whole_none f b p ps w ev)))

    -- the procedures of the part
    pub procs_count : (f b : ℕ) (ps : List GraphProc) → Whole f b ps → length (part_procs keep name b ps)
        + home f ≡ home (f + length ps)
    procs_count f b [] w = let z : f + 0 ≡ f = omega arith in omega (arith, ap home z)
    procs_count f b (p ∷ ps) w =
        grind (
          arith,
          whole_first,
          length_if,
          whole_later,
          procs_count (suc f) (b + length p.blocks) ps (whole_later f b p ps w),
        )

    -- among these procedures that is kept which begins at this block, and its first block has a number
    pub record Stands (qs : List GraphProc) (p : GraphProc) (first b n j : ℕ) : Type 0 where
      pub proc : nth qs j ≡ Some (part_proc keep name first p)
      pub entry : entry_from n qs j + before keep b ≡ n + before keep first

    pub proc_placed : (f b n : ℕ) (ps : List GraphProc) → Whole f b ps → (e j : ℕ) → e < length ps
        → keep (entry_from b ps e) ≡ true → j + home f ≡ home (f + e) → Stands (part_procs keep name b ps)
        (or_else (nth ps e) no_proc) (entry_from b ps e) b n j
    proc_placed f b n (p ∷ ps) w (suc e) j lt k ej = later (keep b) refl j
        (omega (arith, ej, ap home (let z : suc f + e ≡ f + suc e = omega arith in z))) (λ m i h. proc_placed
        (suc f) (b + length p.blocks) m ps (whole_later f b p ps w) e i (omega (arith, lt)) k h)
      where
        kept_by : (v : Bool) → keep b ≡ v → home (suc f) ≡ home f + (if v then 1 else 0)
        kept_by v ev = ap (λ (t : Bool). home f + (if t then 1 else 0)) (whole_first f b p ps w ∙ ev)

        up : home (suc f) ≤ home (suc f + e)
        up = before_more kept (suc f) e (suc f + e) refl

        later : (v : Bool) → keep b ≡ v → (j : ℕ) → j + home f ≡ home (suc f + e)
            → ((m i : ℕ) → i + home (suc f) ≡ home (suc f + e)
            → Stands (part_procs keep name (b + length p.blocks) ps) (or_else (nth ps e) no_proc)
            (entry_from (b + length p.blocks) ps e) (b + length p.blocks) m i)
            → Stands (if v then part_proc keep name b p ∷ part_procs keep name (b + length p.blocks) ps
            else part_procs keep name (b + length p.blocks) ps) (or_else (nth ps e) no_proc)
            (entry_from (b + length p.blocks) ps e) b n j
        later true ev zero h rest = absurd (omega (arith, h, kept_by true ev, up))
        later true ev (suc j) h rest =
            let r = rest (n + length (part_blocks keep name b p.blocks)) j
            (omega (arith, h, kept_by true ev)) in
            record { proc = r.proc; entry = omega (arith, r.entry, blocks_count b p.blocks) }
        later false ev j h rest =
            let r = rest n j (omega (arith, h, kept_by false ev)) in
            record { proc = r.proc; entry = omega (arith, r.entry, none_counted f b p ps w ev) }
    proc_placed f b n ps w e j lt k ej = grind arith

    -- each has a block
    pub procs_numbered : (f b : ℕ) (ps : List GraphProc) → AllByRecursion ProcNumbers ps
        → AllByRecursion ProcNumbers (part_procs keep name b ps)
    procs_numbered f b [] h = tt
    procs_numbered f b (p ∷ ps) h =
        numbered (keep b) refl (procs_numbered (suc f) (b + length p.blocks) ps h.1)
      where
        some : (xs : List Block) → 1 ≤ length xs → keep b ≡ true → 1 ≤ length (part_blocks keep name b xs)
        some [] le k = absurd (omega arith)
        some (x ∷ xs) le k = grind (arith, length_if, before_kept)

        numbered : (v : Bool) → keep b ≡ v → AllByRecursion ProcNumbers
            (part_procs keep name (b + length p.blocks) ps) → AllByRecursion ProcNumbers
            (if v then part_proc keep name b p ∷ part_procs keep name (b + length p.blocks) ps
            else part_procs keep name (b + length p.blocks) ps)
        numbered true ev rest = grind (arith, some)
        numbered false ev rest = rest
