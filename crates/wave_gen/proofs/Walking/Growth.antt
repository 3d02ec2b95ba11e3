-- A walk that passes many blocks fires many instructions: each wave fires its first one, and inside a wave
-- blocks rise.
use Rattle.std.proofs.Common.{ℕ, zero, suc, ◌+◌, ◌*◌, ◌≡◌, ◌<◌, ◌≤◌, Bool, true, false, cond, length, sym}
use Rattle.std.proofs.Common.{subst, inl, inr, arith}
use Rattle.std.proofs.lemmas.Bool.{cases_Bool, both_ways, cond-true, cond-false}
use Rattle.std.proofs.lemmas.Nat.{mul-le}
use Rattle.std.proofs.Math.Nat.{mul-add}
use Rattle.ws_words.specs.Outside.{Outside}
use Rattle.ws_isa.specs.Image.{Image, is_first, stops, target, IsBlock}
use Rattle.wave_gen.specs.Waits.{Code, count, names_at, chosen, RunPlace, pass, places}
use Rattle.wave_gen.proofs.Waits.WalkShape.{WalkShape}

-- n blocks, m of them passed, f instructions fired before block b
inner_grows : (n m f g b c : ℕ) → m + suc n ≤ n * f + b → f ≤ g → b < c → suc m + suc n ≤ n * (g + 0) + c
inner_grows n m f g b c h l k = grind (arith, mul-le)

cross_grows : (n m f g b c : ℕ) → m + suc n ≤ n * f + b → f ≤ g → b ≤ n → 1 ≤ c
    → suc m + suc n ≤ n * (g + 1) + c
cross_grows n m f g b c h l k d = grind (arith, mul-le, mul-add)

module _ (image : Image) (c : Code) (shape : WalkShape image) (busy : (b : ℕ) → IsBlock image b
    → is_first image b ≡ true → 1 ≤ count (c.steps b)) where
  abbrev N : ℕ
  N = length image.blocks

  -- the instructions fired, and one more where a wave begins
  abbrev begun : RunPlace → ℕ
  begun p = p.fired + cond (is_first image p.block) 1 0

  record Grown (m : ℕ) (p : RunPlace) : Type 0 where
    pub there : IsBlock image p.block
    pub long : m + suc (length image.blocks) ≤ length image.blocks
        * (p.fired + cond (is_first image p.block) 1 0) + p.block

  begins : (out : Outside) → Grown 0 (places image c out 0)
  unfolding is_first
  begins out = record { there = shape.has_block; long = omega arith }

  passes : (m : ℕ) (p : RunPlace) → Grown m p → (pass image c p).over ≡ false → Grown (suc m) (pass image c p)
  unfolding pass
  passes m p g o = elim (cases_Bool (stops image p.block)) [
    | inl h ↦ grind (arith, both_ways, cond-true)
    | inr h ↦ subst (Grown (suc m)) (sym (cond-false (stops image p.block) stopped gone h)) (record {
      there = (shape.edges p.block g.there).there r h;
      long = elim (cases_Bool (is_first image (target image p.block r))) [
        | inl f ↦ subst (λ (v : Bool). suc m + suc N ≤ N * (p.fired + count (c.steps p.block) + cond v 1 0)
            + target image p.block r) (sym f)
            (cross_grows N m (begun p) (p.fired + count (c.steps p.block)) p.block (target image p.block r)
            g.long enough g.there.1 ((shape.edges p.block g.there).there r h).0)
        | inr f ↦ subst (λ (v : Bool). suc m + suc N ≤ N * (p.fired + count (c.steps p.block) + cond v 1 0)
            + target image p.block r) (sym f)
            (inner_grows N m (begun p) (p.fired + count (c.steps p.block)) p.block (target image p.block r)
            g.long enough ((shape.edges p.block g.there).later r h f).0)
      ];
    })
  ]
    where
      r : ℕ
      r = chosen image c p.block (names_at c p).env

      stopped : RunPlace
      stopped = record {
        over = true;
        block = p.block;
        env = (names_at c p).env;
        out = (names_at c p).out;
        fired = p.fired + count (c.steps p.block);
      }

      gone : RunPlace
      gone = record {
        over = false;
        block = target image p.block r;
        env = c.next p.block r (names_at c p).env;
        out = (names_at c p).out;
        fired = p.fired + count (c.steps p.block);
      }

      enough : p.fired + cond (is_first image p.block) 1 0 ≤ p.fired + count (c.steps p.block)
      enough = elim (cases_Bool (is_first image p.block)) [
        | inl f ↦ rw f (let l : 1 ≤ count (c.steps p.block) = busy p.block g.there f in omega (arith, l))
        | inr f ↦ rw f (omega arith)
      ]

  grown : (out : Outside) (m : ℕ) → (places image c out m).over ≡ false → Grown m (places image c out m)
  grown out zero o = begins out
  grown out (suc m) o = go (places image c out m) (λ h. grown out m h) o
    where
      go : (p : RunPlace) → (p.over ≡ false → Grown m p) → (cond p.over p (pass image c p)).over ≡ false
          → Grown (suc m) (cond p.over p (pass image c p))
      go p ih q = elim (cases_Bool p.over) [
        | inl h ↦ grind (arith, both_ways, cond-true)
        | inr h ↦ subst (Grown (suc m)) (sym (cond-false p.over p (pass image c p) h))
            (passes m p (ih h) (grind (arith, cond-false)))
      ]

  -- where it isn't over after m blocks, so many instructions have fired
  pub fires_enough : (out : Outside) (m : ℕ) → (places image c out m).over ≡ false
      → m < length image.blocks * suc (places image c out m).fired
  fires_enough out m o = grind (arith, grown, begun, mul-le, cases_Bool)
