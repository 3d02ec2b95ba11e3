-- The order in which bare instances are listed doesn't matter.
use Rattle.std.proofs.Common.{ℕ, ◌≡◌, cond, List, Option, None, ◌∙◌, arith}
use Rattle.std.specs.List.{list_any}
use Rattle.ws_words.specs.Outside.{World}
use Rattle.ws_isa.specs.Image.{Image}
use Rattle.df_core.specs.Began.{Began}
use Rattle.store_buf.specs.Finding.{pair_eq}
use Rattle.store_buf.specs.Holds.{waiting_in}
use Rattle.part_store.specs.Contents.{asking, is_bare, PartContent}
use Rattle.part_store.specs.Parted.{Fronts, Parting}

module _ (image : Image) (world : World) (began : List (Option Began)) (c : PartContent) (bs : List (ℕ × ℕ))
    (same : (w i : ℕ) → list_any (pair_eq (w, i)) bs ≡ is_bare c w i) where
  asking_same : asking image (record c { bare = bs }) ≡ asking image c
  asking_same j = λ w i. cond (same w i j) None (waiting_in image c.kept w i)

  pub parting : Parting image world began c → Parting image world began (record c { bare = bs })
  parting s = grind (arith, asking_same)

  pub fronts : Fronts c → Fronts (record c { bare = bs })
  fronts f e r j h = same e.wave e.instr ∙ f e r j h
