use Rattle.std.proofs.Common.{ℕ, ◌≡◌, ◌∙◌, ap, List, slice_index, arith}
use Rattle.cfg_core.specs.Tables.{graph_in}
use Rattle.cfg_core.specs.View as view
use Rattle.call_gen.specs.Part.{keeps, number}
use Rattle.call_gen.proofs.Parted.PartPlaces.{before_most}
use Rattle.call_gen.proofs.part.Part.number.Goals as goal
use Rattle.ws_words.specs.Items.{flag_at}

pub overflow_cast-result : goal.overflow_cast-result
overflow_cast-result c =
    let p = c.args.self.now in let f = c.args.f in let g = view.graph (graph_in p.table) in
    let is : c.number_at.result ≡ number g (flag_at p.flags.items) f =
    c.number_at.ensures ∙ ap (λ (ns : List ℕ). slice_index ns f) c.deref.ensures.value
    ∙ c.requires.part.numbers f c.requires.there in
    omega (arith, is, before_most (keeps g (flag_at p.flags.items)) f)
