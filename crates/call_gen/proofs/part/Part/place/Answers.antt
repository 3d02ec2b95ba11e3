use Rattle.std.proofs.Common.{ℕ, ◌≡◌, ◌∙◌, ap, List, slice_index, arith}
use Rattle.call_gen.specs.Part.{before}
use Rattle.call_gen.proofs.Parted.PartPlaces.{before_most}
use Rattle.call_gen.proofs.part.Part.place.Goals as goal
use Rattle.ws_words.specs.Items.{flag_at}

pub overflow_cast-result : goal.overflow_cast-result
overflow_cast-result c =
    let p = c.args.self.now in let b = c.args.b in
    let is : c.number_at.result ≡ before (flag_at p.flags.items) b =
    c.number_at.ensures ∙ ap (λ (ns : List ℕ). slice_index ns b) c.deref.ensures.value
    ∙ c.requires.part.places b (omega (arith, c.requires.part.count, c.requires.there)) in
    omega (arith, is, before_most (flag_at p.flags.items) b)
