-- Of the requests that wait in a wave, the one that is next has the smallest number.
use Rattle.std.proofs.Common.{ℕ, ◌≡◌, ◌≤◌, Bool, List, Option, None, arith}
use Rattle.std.proofs.lemmas.Bool.{cases_lt, cases_eq}
use Rattle.ws_words.specs.Outside.{World, Outside}
use Rattle.ws_isa.specs.Image.{Image, note_of}
use Rattle.ws_isa.specs.Formed.{Formed}
use Rattle.ws_isa.specs.Sound.{seq, Sound}
use Rattle.df_core.specs.Core.{Chain, IsNext}
use Rattle.df_core.specs.Fit.{RightRequest, Legal}
use Rattle.df_core.proofs.Walked.Facts.{WalkFacts}
use Rattle.df_core.proofs.Walked.FromSound.{facts_of}
use Rattle.df_core.proofs.Walked.PortsThere.{ports_there}
use Rattle.df_core.proofs.Walked.Ops.{seq_up}

module _ (image : Image) (world : World) (formed : Formed image) (sound : Sound image) where
  facts : WalkFacts image world
  facts = facts_of image world (ports_there image formed) sound

  -- two requests of one wave and one number are of one instruction
  pub same_op : (w i : ℕ) (xs : List ℕ) (a j : ℕ) (ys : List ℕ) → RightRequest image world w i xs →
      RightRequest image world a j ys → w ≡ a → seq image i ≡ seq image j → i ≡ j
  same_op w i xs a j ys x y wa same =
      grind (arith, cases_eq, cases_lt, seq_up, sound.shape, sound.links, x.at.fires, y.at.fires)

  -- where the chain stands at a legal place
  module _ {issued : ℕ → ℕ → Option ℕ} {waiting : ℕ → ℕ → Option (List ℕ)} {stopped : Bool} {c : Chain}
      {m : Outside} (legal : Legal image world issued waiting stopped c m) where
    -- a request of an operation that wasn't issued is of one that the chain hasn't passed
    not_passed : (w i : ℕ) (xs : List ℕ) (r : RightRequest image world w i xs) → issued w i ≡ None →
        legal.cut ≤ r.time
    not_passed w i xs r fresh = grind (arith, cases_lt)

    -- the operation that is next comes before the others
    pub next_first : (w i : ℕ) (xs : List ℕ) (a j : ℕ) (ys : List ℕ) → RightRequest image world w i xs →
        RightRequest image world a j ys → issued a j ≡ None → w ≡ c.wave → a ≡ c.wave →
        IsNext c (note_of image i) → seq image i ≤ seq image j
    next_first w i xs a j ys x y fresh wc ac next = grind (
      arith,
      not_passed,
      cases_lt,
      facts.only_first,
      legal.cut,
      x.at.fires,
      y.at.fires,
      cases_eq,
      seq_up,
      sound.shape,
      sound.links,
    )
