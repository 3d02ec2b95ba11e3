-- Tables as one part of the core's state.
use Rattle.std.specs.Prelude.{ℕ, suc, ◌+◌, ◌%◌, List, [], ◌∷◌, ◌++◌}
use Rattle.df_core.specs.Core.{Key}
use Rattle.df_core.specs.Shown.{Tables as Part}
use Rattle.match_table.specs.Tables.{held, TableContent}
use Rattle.match_table.specs.Growth.{content_at}
use Rattle.match_table.specs.Limits.{Serves}
use Rattle.match_table.specs.Rows.{contents}

-- the tables serve, from this number on, the instances whose wave number plus instruction is their number
-- modulo 16
abbrev pub ServeFrom : ℕ → List TableContent → Type 0
ServeFrom n [] = Unit {0}
ServeFrom n (c ∷ cs) = Serves n c × ServeFrom (suc n) cs

-- what they list, one table after another
abbrev pub all_fired : List TableContent → List Key
all_fired [] = []
all_fired (c ∷ cs) = c.fired ++ all_fired cs

-- what they hold and list together: at each instance what the table holds that serves it
abbrev pub together : List TableContent → Part
together cs = record { held = λ w i p. held (content_at cs ((w + i) % 16)) w i p; fired = all_fired cs }

abbrev pub part_of : List TableContent → Part
part_of ts = together (contents ts)

-- each table holds tokens of the instances alone that it serves
abbrev pub AllServe : List TableContent → Type 0
AllServe ts = ServeFrom 0 (contents ts)
