-- How large the numbers of notes are: none is larger than there are operations, but for the numbers within a
-- block.
use Rattle.std.proofs.Common.{ℕ, zero, suc, ◌+◌, ◌≡◌, ◌≤◌, ◌⊎◌, Bool, true, false, cond, List, [], ◌∷◌}
use Rattle.std.proofs.Common.{length, length-append, get_or, set, replicate, Option, Some, None, refl, ap}
use Rattle.std.proofs.Common.{subst, arith}
use Rattle.std.proofs.lemmas.Bool.{cases_Bool, cases_eq}
use Rattle.ws_isa.specs.declared.instr.Op.{Op}
use Rattle.ws_isa.specs.declared.instr.Link.{Link}
use Rattle.ws_isa.specs.declared.instr.Link.TheVariants.{Unknown, Nothing, Is}
use Rattle.ws_isa.specs.Image.{Instr, Block, Image, flat, is_memory_op, is_writing_op}
use Rattle.wave_link.specs.declared.outline.Way.{Way}
use Rattle.wave_link.specs.declared.outline.Way.TheVariants.{Out, On, Fork}
use Rattle.wave_link.specs.declared.outline.Outline.{Outline}
use Rattle.wave_link.specs.declared.links.Behind.{Behind}
use Rattle.wave_link.specs.declared.links.Passage.{Passage}
use Rattle.wave_link.specs.Notes.{both, low_at, lows_from, out_link, head_link, heads_from, joined, begin}
use Rattle.wave_link.specs.Notes.{behind_in, behind_out, hand_on, hand_way, hand_all, unreached, places_from}
use Rattle.wave_link.specs.Notes.{lows_of, heads_of, places_of, writer_next}
use Rattle.wave_link.specs.Outlines.{one_more_op, ops_from, writer_from, outlines_from, with_nop}
use Rattle.wave_link.specs.Outlines.{with_nops_from}
use Rattle.wave_link.specs.Grown.{seq_next, no_place}
use Rattle.wave_link.proofs.Parted.Numbers.{seq_in, writer_in, place_of}
use Rattle.ws_isa.proofs.Images.{writing_memory_op as writes_memory}
use Rattle.ws_words.specs.Items.{nth, or_else}

-- a link that is said names a number up to this
abbrev pub UpTo : ℕ → Link → Type 0
UpTo t (Is n) = n ≤ t
UpTo t Nothing = Unit {0}
UpTo t Unknown = Unit {0}

-- an entry of a table after one was set
after_set : {A : Type 0} (P : A → Type 0) (l : List A) (i : ℕ) (a d : A) → P a → ((j : ℕ) → P (get_or l j d))
    → (j : ℕ) → P (get_or (set l i a) j d)
after_set P [] i a d h g j = g j
after_set P (x ∷ l) zero a d h g zero = h
after_set P (x ∷ l) zero a d h g (suc j) = g (suc j)
after_set P (x ∷ l) (suc i) a d h g zero = g zero
after_set P (x ∷ l) (suc i) a d h g (suc j) = after_set P l i a d h (λ k. g (suc k)) j

in_replicate : {A : Type 0} (P : A → Type 0) (n : ℕ) (d : A) → P d → (j : ℕ) → P (get_or (replicate n d) j d)
in_replicate P (suc n) d h (suc j) = in_replicate P n d h j
in_replicate v0 v1 v2 v3 v4 = grind arith

cond_both : {A : Type 0} (P : A → Type 0) (v : Bool) (a b : A) → P a → P b → P (cond v a b)
cond_both P v a b h g = grind arith

-- Operations of outlines.

abbrev pub total_ops : List Outline → ℕ
total_ops [] = 0
total_ops (x ∷ xs) = x.ops + total_ops xs

low_le : (x : Outline) (n : ℕ) → low_at x n ≤ n
low_le x n = grind arith

-- at each block, the number of the last operation before it, and how many it has
abbrev pub LowsFit : ℕ → List Outline → List ℕ → ℕ → Type 0
LowsFit t xs lows b = (i j : ℕ) (o : Outline) → nth xs i ≡ Some o → j ≡ b + i → get_or lows j 0 + o.ops ≤ t

lows_fit : (xs : List Outline) (n i : ℕ) (o : Outline) → nth xs i ≡ Some o
    → get_or (lows_from xs n) i 0 + o.ops ≤ n + total_ops xs
lows_fit (x ∷ xs) n (suc i) o e = grind (arith, low_le, lows_fit xs (low_at x n + x.ops) i o e)
lows_fit xs n i o e = grind (arith, low_le)

lows_in_table : (xs : List Outline) → LowsFit (total_ops xs) xs (lows_of xs) 1
lows_in_table xs i j o e f = let g : j ≡ suc i = omega arith in rw g (omega (arith, lows_fit xs 0 i o e))

fit_rest : (t : ℕ) (x : Outline) (xs : List Outline) (lows : List ℕ) (b : ℕ) → LowsFit t (x ∷ xs) lows b
    → LowsFit t xs lows (suc b)
fit_rest t x xs lows b h i j o e f = h (suc i) j o e (omega arith)

-- Links.

both_up : (t : ℕ) (k l : Link) → UpTo t k → UpTo t l → UpTo t (both k l)
both_up t k l h g = grind (arith, cond_both)

abbrev pub LinksUpTo : ℕ → List Link → Type 0
LinksUpTo t heads = (j : ℕ) → UpTo t (get_or heads j Unknown)

out_up : (t : ℕ) (w : Way) (heads : List Link) → LinksUpTo t heads → UpTo t (out_link w heads)
out_up t w heads h = grind (arith, both_up)

head_up : (t : ℕ) (x : Outline) (low : ℕ) (heads : List Link) → low + x.ops ≤ t → LinksUpTo t heads
    → UpTo t (head_link x low heads)
head_up t x low heads l h = grind (arith, cases_eq, out_up)

heads_up : (t : ℕ) (xs : List Outline) (lows : List ℕ) (b : ℕ) (heads : List Link) → LowsFit t xs lows b
    → LinksUpTo t heads → LinksUpTo t (heads_from xs lows b heads)
heads_up t [] lows b heads f h = h
heads_up t (x ∷ xs) lows b heads f h =
    let r : LinksUpTo t (heads_from xs lows (suc b) heads) =
    grind (arith, fit_rest, heads_up t xs lows (suc b) heads (fit_rest t x xs lows b f) h) in
    after_set (UpTo t) (heads_from xs lows (suc b) heads) b
    (head_link x (get_or lows b 0) (heads_from xs lows (suc b) heads)) Unknown
    (head_up t x (get_or lows b 0) (heads_from xs lows (suc b) heads) (f 0 b x refl (omega arith)) r) r

-- Who came before.

pub record BehindUpTo (t : ℕ) (y : Behind) : Type 0 where
  pub pred : UpTo t y.pred
  pub writer : y.writer ≤ t

abbrev pub EntryUpTo : ℕ → Option Behind → Type 0
EntryUpTo t None = Unit {0}
EntryUpTo t (Some y) = BehindUpTo t y

abbrev pub EntriesUpTo : ℕ → List (Option Behind) → Type 0
EntriesUpTo t table = (j : ℕ) → EntryUpTo t (get_or table j None)

joined_up : (t : ℕ) (o : Option Behind) (y : Behind) → EntryUpTo t o → BehindUpTo t y
    → BehindUpTo t (joined o y)
joined_up t o y h g = grind (arith, both_up, cond_both)

begin_up : (t : ℕ) → BehindUpTo t begin
begin_up t = record { pred = tt; writer = omega arith }

in_up : (t : ℕ) (x : Outline) (b : ℕ) (table : List (Option Behind)) → EntriesUpTo t table
    → EntryUpTo t (behind_in x b table)
in_up t x b table h = cond_both (EntryUpTo t) x.first (Some begin) (get_or table b None) (begin_up t) (h b)

out_behind_up : (t : ℕ) (x : Outline) (low : ℕ) (y : Behind) → low + x.ops ≤ t → x.writer ≤ x.ops
    → BehindUpTo t y → BehindUpTo t (behind_out x low y)
out_behind_up t x low y l w h = grind (arith, cond_both)

hand_up : (t b : ℕ) (y : Behind) (table : List (Option Behind)) → BehindUpTo t y → EntriesUpTo t table
    → EntriesUpTo t (hand_on y b table)
hand_up t b y table h g = after_set (EntryUpTo t) table b (Some (joined (get_or table b None) y)) None
    (joined_up t (get_or table b None) y (g b) h) g

way_up : (t : ℕ) (w : Way) (y : Behind) (table : List (Option Behind)) → BehindUpTo t y → EntriesUpTo t table
    → EntriesUpTo t (hand_way w y table)
way_up t Out y table h g = g
way_up t (On b) y table h g = hand_up t b y table h g
way_up t (Fork b c) y table h g = hand_up t c y (hand_on y b table) h (hand_up t b y table h g)

all_up : (t : ℕ) (x : Outline) (low : ℕ) (o : Option Behind) (table : List (Option Behind)) → low + x.ops ≤ t
    → x.writer ≤ x.ops → EntryUpTo t o → EntriesUpTo t table → EntriesUpTo t (hand_all x low o table)
all_up t x low None table l w h g = g
all_up t x low (Some y) table l w h g = way_up t x.way (behind_out x low y) table
    (out_behind_up t x low y l w h) g

-- Places.

pub record PlaceUpTo (t : ℕ) (p : Passage) : Type 0 where
  pub low : p.low ≤ t
  pub pred : UpTo t p.pred
  pub succ : UpTo t p.succ
  pub writer : p.writer ≤ t

-- the last writing operation is one of the block's
abbrev pub WritersFit : List Outline → Type 0
WritersFit xs = (i : ℕ) (o : Outline) → nth xs i ≡ Some o → o.writer ≤ o.ops

reached_up : (t : ℕ) (o : Option Behind) → EntryUpTo t o → BehindUpTo t (or_else o unreached)
reached_up t o h = grind arith

places_up : (t : ℕ) (xs : List Outline) (b : ℕ) (lows : List ℕ) (heads : List Link)
    (table : List (Option Behind)) → LowsFit t xs lows b → WritersFit xs → LinksUpTo t heads
    → EntriesUpTo t table →
    (n : ℕ) → PlaceUpTo t (get_or (places_from xs b lows heads table) n no_place)
places_up t [] b lows heads table f w h g n = grind arith
places_up t (x ∷ xs) b lows heads table f w h g zero =
    let i : EntryUpTo t (behind_in x b table) = in_up t x b table g in
    let r : BehindUpTo t (or_else (behind_in x b table) unreached) = reached_up t (behind_in x b table) i in
    let l : get_or lows b 0 + x.ops ≤ t = f 0 b x refl (omega arith) in
    record { low = omega arith; pred = r.pred; succ = out_up t x.way heads h; writer = r.writer }
places_up t (x ∷ xs) b lows heads table f w h g (suc n) =
    places_up t xs (suc b) lows heads (hand_all x (get_or lows b 0) (behind_in x b table) table)
    (fit_rest t x xs lows b f) (λ i o e. w (suc i) o e) h
    (all_up t x (get_or lows b 0) (behind_in x b table) table (f 0 b x refl (omega arith)) (w 0 x refl)
    (in_up t x b table g) g) n

pub all_places_up : (xs : List Outline) → WritersFit xs → (n : ℕ)
    → PlaceUpTo (total_ops xs) (get_or (places_of xs) n no_place)
all_places_up xs w n =
    places_up (total_ops xs) xs 1 (lows_of xs) (heads_of xs) (replicate (length xs + 1) None)
    (lows_in_table xs) w
    (heads_up (total_ops xs) xs (lows_of xs) 1 (replicate (length xs + 1) Unknown) (lows_in_table xs)
    (in_replicate (UpTo (total_ops xs)) (length xs + 1) Unknown tt))
    (in_replicate (EntryUpTo (total_ops xs)) (length xs + 1) None tt) n

-- The outlines of a draft.

one_op : (i : Instr) (n : ℕ) → one_more_op i n ≤ n + 1
one_op i n = cond_both (λ (m : ℕ). m ≤ n + 1) (is_memory_op i.op) (n + 1) n (omega arith) (omega arith)

few_ops : (is : List Instr) (n : ℕ) → ops_from is n ≤ n + length is
few_ops [] n = omega arith
few_ops (i ∷ is) n = omega (arith, one_op i n, few_ops is (one_more_op i n))

writer_fits : (is : List Instr) (n w : ℕ) → w ≤ n → writer_from is n w ≤ ops_from is n
writer_fits [] n w l = l
writer_fits (i ∷ is) n w l = writer_fits is (one_more_op i n) (cond (is_writing_op i.op) (n + 1) w)
    (go (cases_Bool (is_writing_op i.op)))
  where
    go : (is_writing_op i.op ≡ true) ⊎ (is_writing_op i.op ≡ false) → cond (is_writing_op i.op) (n + 1) w
        ≤ one_more_op i n
    go h = grind (arith, writes_memory, cond_both)

pub outlines_writers : (xs : List Block) (b : ℕ) (firsts : List Bool) → WritersFit (outlines_from xs b firsts)
outlines_writers (x ∷ xs) b firsts (suc i) o e = outlines_writers xs (b + 1) firsts i o e
outlines_writers xs b firsts i o e = grind (arith, writer_fits)

pub outlines_ops : (xs : List Block) (b : ℕ) (firsts : List Bool) → total_ops (outlines_from xs b firsts)
    ≤ length (flat xs)
outlines_ops [] b firsts = omega arith
outlines_ops (x ∷ xs) b firsts = grind (arith, few_ops, length-append, outlines_ops xs (b + 1) firsts)

pub outlines_count : (xs : List Block) (b : ℕ) (firsts : List Bool) → length (outlines_from xs b firsts)
    ≡ length xs
outlines_count [] b firsts = refl
outlines_count (x ∷ xs) b firsts = ap suc (outlines_count xs (b + 1) firsts)

more_ops : (v : Bool) (n : ℕ) → (n ≤ cond v (n + 1) n) × (cond v (n + 1) n ≤ n + 1)
more_ops v n = grind arith

nops_writers : (xs : List Outline) (b : ℕ) (added : List Bool) → WritersFit xs
    → WritersFit (with_nops_from xs b added)
nops_writers [] b added w i o e = absurd (cc)
nops_writers (x ∷ xs) b added w zero o e =
    let f : with_nop x (get_or added b false) ≡ o = cc in
    subst (λ (y : Outline). y.writer ≤ y.ops) f
    (omega (arith, w 0 x refl, (more_ops (get_or added b false) x.ops).0))
nops_writers (x ∷ xs) b added w (suc i) o e = nops_writers xs (b + 1) added (λ j p f. w (suc j) p f) i o e

nops_ops : (xs : List Outline) (b : ℕ) (added : List Bool) → total_ops (with_nops_from xs b added) ≤ total_ops
    xs + length xs
nops_ops [] b added = omega arith
nops_ops (x ∷ xs) b added = grind (arith, more_ops, nops_ops xs (b + 1) added)

pub place_more : (t u : ℕ) (p : Passage) → t ≤ u → PlaceUpTo t p → PlaceUpTo u p
place_more t u p l h = grind arith

-- as many operations as there can be
abbrev pub most_ops : Image → ℕ
most_ops draft = length (flat draft.blocks) + length draft.blocks

pub place_up : (draft : Image) (b : ℕ) → PlaceUpTo (most_ops draft) (place_of draft b)
unfolding place_of
place_up draft b = grind (
  arith,
  nops_writers,
  outlines_writers,
  draft.blocks,
  nops_ops,
  outlines_ops,
  outlines_count,
  place_more,
  all_places_up,
)

-- Within a block.

seq_step : (op : Op) (s : ℕ) → (s ≤ seq_next op s) × (seq_next op s ≤ s + 1)
seq_step op s = grind arith

pub seq_up : (is : List Instr) (i s : ℕ) → seq_in is i s ≤ s + i
seq_up (x ∷ is) (suc i) s = grind (arith, seq_step, seq_up is i (seq_next x.op s))
seq_up is i s = grind arith

pub writer_up : (is : List Instr) (i s w t : ℕ) → w ≤ t → s + i ≤ t → writer_in is i s w ≤ t
writer_up (x ∷ is) (suc i) s w t l h =
    writer_up is i (seq_next x.op s) (writer_next x.op s w) t
    (cond_both (λ (n : ℕ). n ≤ t) (is_writing_op x.op) s w (omega arith) l)
    (omega (arith, (seq_step x.op s).1))
writer_up is i s w t l h = grind arith
