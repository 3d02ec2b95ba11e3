-- What the outlines of a draft say of its blocks and edges.
use Rattle.std.proofs.Common.{ℕ, zero, suc, ◌+◌, ◌-◌, ◌≡◌, ◌<◌, ◌≤◌, ◌⊎◌, Bool, true, false, cond, not, List}
use Rattle.std.proofs.Common.{[], ◌∷◌, length, get_or, Some, refl, sym, ap, ◌∙◌, inl, inr, subst, arith, eqb}
use Rattle.std.proofs.lemmas.Bool.{cases_eq}
use Rattle.ws_isa.specs.Image.{Exit, Goto, Branch, Landings, Stop, Block, Image, no_block, block_at, leave_to}
use Rattle.ws_isa.specs.Image.{is_stop, stops, target, is_first, edges_of, IsBlock}
use Rattle.ws_isa.specs.Formed.{WavesFrom, WavesInOrder}
use Rattle.ws_isa.specs.Sound.{ShapeRules}
use Rattle.ws_isa.specs.Open.{IsArm}
use Rattle.wave_link.specs.declared.outline.Way.{Way}
use Rattle.wave_link.specs.declared.outline.Way.TheVariants.{Out, On, Fork}
use Rattle.wave_link.specs.declared.outline.Outline.{Outline}
use Rattle.wave_link.specs.Outlines.{firsts_from, firsts_of, way_of, outline_of, outlines_from, outlines_of}
use Rattle.wave_link.specs.Outlines.{with_nop, with_nops_from, with_nops}
use Rattle.wave_link.specs.Grown.{added_in}
use Rattle.wave_link.specs.Adds.{adds}
use Rattle.wave_link.specs.Fit.{ForksOrEnds}
use Rattle.wave_link.proofs.Linked.LinksTables.{no_outline, outline_in, Leads, Parts}
use Rattle.ws_words.proofs.Lists.{same_read as any_default}
use Rattle.ws_words.specs.Items.{nth, or_else}

-- Outlines.

outlines_length : (xs : List Block) (b : ℕ) (firsts : List Bool) → length (outlines_from xs b firsts)
    ≡ length xs
outlines_length [] b firsts = refl
outlines_length (x ∷ xs) b firsts = ap suc (outlines_length xs (b + 1) firsts)

nops_length : (xs : List Outline) (b : ℕ) (added : List Bool) → length (with_nops_from xs b added) ≡ length xs
nops_length [] b added = refl
nops_length (x ∷ xs) b added = ap suc (nops_length xs (b + 1) added)

outline_there : (xs : List Block) (b n m : ℕ) (firsts : List Bool) → n < length xs → m ≡ b + n
    → outline_in (outlines_from xs b firsts) n ≡ outline_of (or_else (nth xs n) no_block) m firsts
outline_there (x ∷ xs) b (suc n) m firsts l e =
    grind (arith, outline_there xs (b + 1) n m firsts (omega arith) (omega arith))
outline_there xs b n m firsts l e = grind arith

nop_there : (xs : List Outline) (b n m : ℕ) (added : List Bool) → n < length xs → m ≡ b + n
    → outline_in (with_nops_from xs b added) n ≡ with_nop (outline_in xs n) (get_or added m false)
nop_there (x ∷ xs) b (suc n) m added l e = nop_there xs (b + 1) n m added (omega arith) (omega arith)
nop_there xs b n m added l e = grind arith

-- the outlines of a draft, before and after no-ops are added
abbrev pub bare_of : Image → List Outline
bare_of draft = outlines_of draft.blocks

abbrev pub grown_of : Image → List Outline
grown_of draft = with_nops (bare_of draft) (added_in draft.blocks)

pub bare_length : (draft : Image) → length (bare_of draft) ≡ length draft.blocks
bare_length draft = outlines_length draft.blocks 1 (firsts_of draft.blocks)

pub grown_length : (draft : Image) → length (grown_of draft) ≡ length draft.blocks
grown_length draft = nops_length (bare_of draft) 0 (added_in draft.blocks) ∙ bare_length draft

pub bare_is : (draft : Image) (n : ℕ) → n < length draft.blocks → outline_in (bare_of draft) n ≡ outline_of
    (block_at draft (suc n)) (suc n) (firsts_of draft.blocks)
unfolding block_at
bare_is draft n l = outline_there draft.blocks 1 n (suc n) (firsts_of draft.blocks) l (omega arith)

pub grown_is : (draft : Image) (n : ℕ) → n < length draft.blocks → outline_in (grown_of draft) n ≡ with_nop
    (outline_in (bare_of draft) n) (adds draft (suc n))
unfolding adds
grown_is draft n l = grind (arith, nop_there, bare_of, bare_length)

abbrev pub outline_at : Image → ℕ → Outline
outline_at draft zero = no_outline
outline_at draft (suc n) = outline_in (grown_of draft) n

pub outline_is : (draft : Image) (b : ℕ) → IsBlock draft b → outline_at draft b ≡ with_nop
    (outline_of (block_at draft b) b (firsts_of draft.blocks)) (adds draft b)
outline_is draft b h = grind (arith, grown_is, bare_is)

pub way_is : (draft : Image) (b : ℕ) → IsBlock draft b → (outline_at draft b).way
    ≡ way_of (block_at draft b).exit (firsts_of draft.blocks)
way_is draft b h = ap (λ (o : Outline). o.way) (outline_is draft b h)

-- First blocks.

firsts_length : (xs : List Block) (w : ℕ) → length (firsts_from xs w) ≡ length xs
firsts_length [] w = refl
firsts_length (x ∷ xs) w = ap suc (firsts_length xs x.wave)

first_there : (xs : List Block) (w n : ℕ) → suc n < length xs → get_or (firsts_from xs w) (suc n) false
    ≡ not (eqb (or_else (nth xs (suc n)) no_block).wave (or_else (nth xs n) no_block).wave)
first_there (x ∷ y ∷ xs) w (suc n) l = first_there (y ∷ xs) x.wave n (omega arith)
first_there xs w n l = grind arith

first_wave : (xs : List Block) → WavesInOrder xs → get_or (firsts_from xs 0) 0 false ≡ true
first_wave xs w = grind arith

pub first_said : (draft : Image) (b : ℕ) → WavesInOrder draft.blocks → IsBlock draft b
    → get_or (firsts_of draft.blocks) b false ≡ is_first draft b
unfolding is_first block_at
first_said draft b w h = grind (arith, first_wave, first_there)

pub first_told : (draft : Image) (b : ℕ) → WavesInOrder draft.blocks → IsBlock draft b
    → get_or (firsts_of draft.blocks) b true ≡ is_first draft b
first_told draft b w h = any_default (firsts_of draft.blocks) b true false
    (omega (arith, h.1, firsts_length draft.blocks 0)) ∙ first_said draft b w h

pub first_is : (draft : Image) (b : ℕ) → WavesInOrder draft.blocks → IsBlock draft b
    → (outline_at draft b).first ≡ is_first draft b
first_is draft b w h = ap (λ (o : Outline). o.first) (outline_is draft b h) ∙ first_said draft b w h

-- Waves stand one after the other.

wave_next : (xs : List Block) (w n : ℕ) → WavesFrom w xs → suc n < length xs
    → (or_else (nth xs n) no_block).wave ≤ (or_else (nth xs (suc n)) no_block).wave
wave_next (x ∷ y ∷ xs) w (suc n) h l = wave_next (y ∷ xs) x.wave n h.1 (omega arith)
wave_next xs w n h l = grind arith

waves_next : (xs : List Block) (n : ℕ) → WavesInOrder xs → suc n < length xs
    → (or_else (nth xs n) no_block).wave ≤ (or_else (nth xs (suc n)) no_block).wave
waves_next [] n h l = absurd (omega arith)
waves_next (x ∷ []) n h l = absurd (omega arith)
waves_next (x ∷ y ∷ xs) zero h l = grind arith
waves_next (x ∷ y ∷ xs) (suc n) h l = wave_next (y ∷ xs) 1 n h.1 (omega arith)

wave_step : (draft : Image) (b : ℕ) → WavesInOrder draft.blocks → 1 ≤ b → b < length draft.blocks
    → (block_at draft b).wave ≤ (block_at draft (suc b)).wave
unfolding block_at
wave_step draft b w l h = grind (arith, waves_next)

pub waves_rise : (draft : Image) (b c : ℕ) → WavesInOrder draft.blocks → 1 ≤ b → b ≤ c
    → c ≤ length draft.blocks → (block_at draft b).wave ≤ (block_at draft c).wave
waves_rise draft b zero w l h k = absurd (omega arith)
waves_rise draft b (suc c) w l h k = go (cases_eq b (suc c)) (λ q. waves_rise draft b c w l q (omega arith))
  where
    go : (b ≡ suc c) ⊎ (b ≡ suc c → ⊥) → (b ≤ c → (block_at draft b).wave ≤ (block_at draft c).wave)
        → (block_at draft b).wave ≤ (block_at draft (suc c)).wave
    go v0 v1 = grind (arith, wave_step)

not_first : (draft : Image) (b : ℕ) → 2 ≤ b → (block_at draft b).wave ≡ (block_at draft (b - 1)).wave
    → is_first draft b ≡ false
unfolding is_first
not_first draft b l e = grind arith

pub in_wave : (draft : Image) (b c m : ℕ) → WavesInOrder draft.blocks → IsBlock draft b → IsBlock draft c
    → (block_at draft b).wave ≡ (block_at draft c).wave → b < m → m ≤ c → (outline_at draft m).first ≡ false
in_wave draft b c m w hb hc e l k = grind (arith, waves_rise, first_is, not_first)

-- Edges.

module _ (draft : Image) (shape : ShapeRules draft) (branches : (b s x y : ℕ) → IsBlock draft b
    → (block_at draft b).exit ≡ Branch s x y → ForksOrEnds draft b x y) where
  abbrev firsts : List Bool
  firsts = firsts_of draft.blocks

  told : (t : ℕ) → IsBlock draft t → get_or firsts t true ≡ is_first draft t
  told t h = first_told draft t shape.waves h

  -- A branch.

  branch_in : (b i p q : ℕ) → IsBlock draft b → (block_at draft b).exit ≡ Branch i p q
      → IsBlock draft p × IsBlock draft q
  unfolding target stops
  branch_in b i p q h e = let s : stops draft b ≡ false = ap is_stop e in (
    subst (IsBlock draft) (ap (λ (x : Exit). leave_to x 1) e) ((shape.blocks b h).edges.there 1 s),
    subst (IsBlock draft) (ap (λ (x : Exit). leave_to x 0) e) ((shape.blocks b h).edges.there 0 s),
  )

  fork_way : (i p q : ℕ) → IsBlock draft p → IsBlock draft q → is_first draft p ≡ false
      → is_first draft q ≡ false → way_of (Branch i p q) firsts ≡ Fork p q
  fork_way i p q h g e f = grind (arith, told)

  out_way : (i p q : ℕ) → IsBlock draft p → IsBlock draft q → is_first draft p ≡ true
      → is_first draft q ≡ true → way_of (Branch i p q) firsts ≡ Out
  out_way i p q h g e f = grind (arith, told)

  leads_by : (e : Exit) (r : ℕ) → is_stop e ≡ false → is_first draft (leave_to e r) ≡ false
      → IsBlock draft (leave_to e r) → ((s : ℕ) (ls : List ℕ) → e ≡ Landings s ls
      → is_first draft (leave_to e r) ≡ true) → Leads (way_of e firsts) (leave_to e r)
  leads_by e r s f h m = grind (arith, told)

  pub edge_leads : (b r : ℕ) → IsBlock draft b → stops draft b ≡ false → is_first draft (target draft b r)
      ≡ false → Leads (outline_at draft b).way (target draft b r)
  unfolding target stops
  edge_leads b r h s f = subst (λ (w : Way). Leads w (target draft b r)) (sym (way_is draft b h))
      (grind (arith, leads_by, shape.blocks))

  pub record Back (b c : ℕ) : Type 0 where
    pub goes : stops draft b ≡ false
    pub r : ℕ
    pub target_is : target draft b r ≡ c
    pub inside : is_first draft c ≡ false

  back_by : (b : ℕ) (e : Exit) (c : ℕ) → IsBlock draft b → (block_at draft b).exit ≡ e
      → Leads (way_of e firsts) c → Back b c
  unfolding target stops
  back_by b (Goto t) c h e k = go (get_or firsts t true) refl k
    where
      s : stops draft b ≡ false
      s = ap is_stop e

      at : (r : ℕ) → target draft b r ≡ t
      at r = ap (λ (x : Exit). leave_to x r) e

      block : IsBlock draft t
      block = subst (IsBlock draft) (at 0) ((shape.blocks b h).edges.there 0 s)

      go : (v : Bool) → get_or firsts t true ≡ v → Leads (cond v Out (On t)) c → Back b c
      go true f k = absurd k
      go false f k = grind (arith, s, told, block)
  back_by b (Branch i p q) c h e k = go (branches b i p q h e)
    where
      there : IsBlock draft p × IsBlock draft q
      there = branch_in b i p q h e

      arm : (a : IsArm draft b 0 p × IsArm draft b 1 q) → (c ≡ p) ⊎ (c ≡ q) → Back b c
      arm a (inl k) = record {
        goes = ap is_stop e;
        r = 1;
        target_is = ap (λ (x : Exit). leave_to x 1) e ∙ sym k;
        inside = ap (is_first draft) k ∙ a.0.not_first;
      }
      arm a (inr k) = grind arith

      go : ForksOrEnds draft b p q → Back b c
      go (inl a) = grind (arith, arm, Leads, fork_way, there)
      go (inr o) = absurd (rw (out_way i p q there.0 there.1 o.0 o.1) at k)
  back_by b (Landings i ls) c h e k = absurd k
  back_by b Stop c h e k = absurd k

  pub back : (b c : ℕ) → IsBlock draft b → Leads (outline_at draft b).way c → Back b c
  back b c h k = back_by b (block_at draft b).exit c h refl (grind (arith, way_is))

  -- an edge inside a wave leads on in it
  pub record On_in (b c : ℕ) : Type 0 where
    pub later : b < c
    pub most : c ≤ length draft.blocks
    pub wave : (block_at draft c).wave ≡ (block_at draft b).wave

  pub on_in : (b c : ℕ) → IsBlock draft b → Leads (outline_at draft b).way c → On_in b c
  on_in b c h k =
      let q : Back b c = back b c h k in
      let l : (b < target draft b q.r)
      × ((block_at draft (target draft b q.r)).wave ≡ (block_at draft b).wave) =
      (shape.blocks b h).edges.later q.r q.goes (ap (is_first draft) q.target_is ∙ q.inside) in
      grind arith

  out_by : (b : ℕ) (e : Exit) → IsBlock draft b → (block_at draft b).exit ≡ e
      → (stops draft b ≡ true)
      ⊎ ((stops draft b ≡ false) × ((r : ℕ) × (is_first draft (target draft b r) ≡ true)))
      → way_of e firsts ≡ Out
  unfolding target stops
  out_by b e h j s = grind (arith, shape.blocks, told, branch_in, out_way)

  pub way_out : (b : ℕ) → IsBlock draft b → (stops draft b ≡ true)
      ⊎ ((stops draft b ≡ false) × ((r : ℕ) × (is_first draft (target draft b r) ≡ true)))
      → (outline_at draft b).way ≡ Out
  way_out b h s = way_is draft b h ∙ out_by b (block_at draft b).exit h refl s

  -- and where nothing leads on, a wave ends
  ends_by : (b : ℕ) (e : Exit) → IsBlock draft b → (block_at draft b).exit ≡ e → way_of e firsts ≡ Out
      → (stops draft b ≡ true)
      ⊎ ((stops draft b ≡ false) × ((r : ℕ) × (is_first draft (target draft b r) ≡ true)))
  unfolding target stops
  ends_by b e h j w = grind (arith, told, branch_in, fork_way, shape.blocks)

  pub out_ends : (b : ℕ) → IsBlock draft b → (outline_at draft b).way ≡ Out
      → (stops draft b ≡ true)
      ⊎ ((stops draft b ≡ false) × ((r : ℕ) × (is_first draft (target draft b r) ≡ true)))
  out_ends b h w = ends_by b (block_at draft b).exit h refl (sym (way_is draft b h) ∙ w)

  -- the edges that lead to a block
  edge_of : (e : Exit) (c : ℕ) → Leads (way_of e firsts) c → (i : ℕ) × (nth (edges_of e) i ≡ Some c)
  edge_of (Goto t) c k = grind (arith, firsts, Leads)
  edge_of (Branch i p q) c k = go (get_or firsts p true) (get_or firsts q true) k
    where
      go : (v w : Bool) → Leads (cond v (cond w Out (On q)) (cond w (On p) (Fork p q))) c
          → (i : ℕ) × (nth (p ∷ q ∷ []) i ≡ Some c)
      go true true k = absurd k
      go true false k = (1, ap Some (sym k))
      go false true k = (0, ap Some (sym k))
      go false false (inl k) = (0, ap Some (sym k))
      go false false (inr k) = (1, ap Some (sym k))
  edge_of (Landings i ls) c k = absurd k
  edge_of Stop c k = absurd k

  -- an exit with a fork is a branch
  fork_by : (e : Exit) (p q : ℕ) → way_of e firsts ≡ Fork p q → (s : ℕ) × (e ≡ Branch s p q)
  fork_by e p q f = grind (arith, firsts)

  pub forks : (b p q : ℕ) → IsBlock draft b → (outline_at draft b).way ≡ Fork p q
      → IsArm draft b 0 p × IsArm draft b 1 q
  forks b p q h f =
      let e : (s : ℕ) × ((block_at draft b).exit ≡ Branch s p q) = fork_by (block_at draft b).exit p q
      (sym (way_is draft b h) ∙ f) in
      let there : IsBlock draft p × IsBlock draft q = branch_in b e.0 p q h e.1 in
      elim (branches b e.0 p q h e.1) [
        | inl a ↦ a
        | inr o ↦ absurd (forked (sym (out_way e.0 p q there.0 there.1 o.0 o.1)
            ∙ (ap (λ (x : Exit). way_of x firsts) (sym e.1) ∙ (sym (way_is draft b h) ∙ f))))
      ]
    where
      forked : Out ≡ Fork p q → ⊥
      forked x = cc

  pub leads_edge : (b c : ℕ) → IsBlock draft b → Leads (outline_at draft b).way c
      → (i : ℕ) × (nth (edges_of (block_at draft b).exit) i ≡ Some c)
  leads_edge b c h k = edge_of (block_at draft b).exit c (rw (way_is draft b h) at k)

  parts_by : (b : ℕ) (w : Way) → IsBlock draft b → (outline_at draft b).way ≡ w → Parts w
  parts_by b Out h e = tt
  parts_by b (On c) h e = tt
  parts_by b (Fork p q) h e = grind (arith, forks b p q h e)

  pub parts : (b : ℕ) → IsBlock draft b → Parts (outline_at draft b).way
  parts b h = parts_by b (outline_at draft b).way h refl

  pub alone : (b p q a c : ℕ) → IsBlock draft b → IsBlock draft a → (outline_at draft b).way ≡ Fork p q
      → Leads (outline_at draft b).way c → Leads (outline_at draft a).way c → a ≡ b
  alone b p q a c h g f k l = go (rw f at k) (leads_edge a c g l)
    where
      arm : IsArm draft b 0 p × IsArm draft b 1 q
      arm = forks b p q h f

      go : (c ≡ p) ⊎ (c ≡ q) → (i : ℕ) × (nth (edges_of (block_at draft a).exit) i ≡ Some c) → a ≡ b
      go h n = grind (arith, arm)
