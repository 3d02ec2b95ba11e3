-- How threads stand between two phases and in one.
use Rattle.std.specs.Prelude.{ℕ, ◌≡◌, ◌<◌, ◌≤◌, ◌*◌, true, List, [], Option, Some, None, length}
use Rattle.ws_words.specs.Outside.{World}
use Rattle.ws_isa.specs.Image.{Image, Token}
use Rattle.ws_isa.specs.Walk.{CostAtMost, Ports}
use Rattle.df_core.specs.Core.{has}
use Rattle.port_set.specs.Ports.{Told}
use Rattle.port_set.specs.Slots.{contents as told_by}
use Rattle.match_table.specs.Tables.{TableContent}
use Rattle.match_table.specs.Coming.{Came}
use Rattle.match_table.specs.Growth.{AllGrow}
use Rattle.match_table.specs.Rows.{Fits, RestOf}
use Rattle.match_table.specs.Together.{AllServe, part_of}
use Rattle.fire_crew.specs.Owing.{IsMissing}
use Rattle.store_buf.specs.declared.finish.RunEnd.{RunEnd}
use Rattle.store_buf.specs.declared.finish.RunFinish.{RunFinish}
use Rattle.multi_wave.specs.Parts.{Alone, image_in, world_in}

-- a thread that goes on: its tables, the token that it names, and its budget
pub record Goer : Type 0 where
  pub tables : List TableContent
  pub token : Option Token
  pub budget : ℕ

-- what a thread has that takes part in a phase, beside its tables
pub record Taker : Type 0 where
  pub token : Option Token
  pub budget : ℕ

-- a thread in a phase: its tables, their limits, and what it has if it takes part
pub record Housed : Type 0 where
  pub tables : List TableContent
  pub limits : List ℕ
  pub taker : Option Taker

abbrev pub no_home : Housed
no_home = record { tables = []; limits = []; taker = None }

-- how a thread ended, and what its ports report
abbrev pub EndTold : Type 0
EndTold = RunFinish × List (Option Told)

-- none where it has no part
module _ {P : Type 0} (tells : P → Told) where
  abbrev pub end_told : Option (RunEnd P) → Option EndTold
  end_told None = None
  end_told (Some end) = Some (end.finish, told_by tells end.ports)

-- a thread between two phases goes on, or has ended
pub data Stand : Type 0 where
  On : Goer → Stand
  Off : Option EndTold → Stand

abbrev pub IsOver : Stand → Type 0
IsOver (On g) = ⊥
IsOver (Off end) = Unit {0}

-- a thread that goes on still has the tables and the budget that it had, and one that had ended is as it was
abbrev pub StaysAs : Stand → Stand → Type 0
StaysAs (On old) (On new) = (old.tables ≡ new.tables) × (old.budget ≡ new.budget)
StaysAs (On old) (Off end) = Unit {0}
StaysAs (Off end) new = Off end ≡ new

-- a thread that may run its next phase: no table has had the token that it names, and where its walk has at
-- most n instances, at most 3 n tokens have come
pub record MayRun (image : Image) (world : World) (g : Goer) : Type 0 where
  pub serve : AllServe g.tables
  pub room : length (part_of g.tables).fired < g.budget
  pub token : Token
  pub named : g.token ≡ Some token
  pub missing : IsMissing (part_of g.tables).held token
  pub few : (old : Ports) (count cost : ℕ) → Came old (part_of g.tables).held count
      → CostAtMost image world cost → count ≤ 3 * cost

-- a thread that goes on may do so
abbrev pub IsJudged : Image → World → Stand → Type 0
IsJudged image world (On g) = MayRun image world g
IsJudged image world (Off end) = Unit {0}

abbrev pub IsJudgedOf : Option Alone → Stand → Type 0
IsJudgedOf part stand = IsJudged (image_in part) (world_in part) stand

-- a table has had this token
abbrev pub HasCome : Option Token → List TableContent → Type 0
HasCome None tables = Unit {0}
HasCome (Some t) tables = has ((part_of tables).held t.wave t.instr t.port) ≡ true

-- A thread with these tables, this token and this budget has become what it is after a phase: the tables
-- have lost nothing, and if more may fire a table has had the token.
pub record HasMoved (tables : List TableContent) (token : Option Token) (budget : ℕ) (new : Goer) : Type 0
  where
    pub grow : AllGrow tables new.tables
    pub budget_is : budget ≡ new.budget
    pub come : length (part_of new.tables).fired < new.budget → HasCome token new.tables

-- it has come so far, or it has ended
abbrev pub Went : List TableContent → Option Token → ℕ → Stand → Type 0
Went tables token budget (On new) = HasMoved tables token budget new
Went tables token budget (Off end) = Unit {0}

-- a thread has come so far over a phase, or has ended in it; one that had ended is as it was
abbrev pub MovesTo : Stand → Stand → Type 0
MovesTo (On old) new = Went old.tables old.token old.budget new
MovesTo (Off end) new = Off end ≡ new

-- What a phase does to a thread.

-- the tables fit their limits
abbrev pub IsFit : Housed → Type 0
IsFit h = Fits h.tables h.limits

-- a thread taken apart for a phase
abbrev pub ApartSo : Stand → List TableContent → Option Taker → Option EndTold → Type 0
ApartSo (On g) tables (Some t) end = (tables ≡ g.tables) × (t.token ≡ g.token) × (t.budget ≡ g.budget)
ApartSo (On g) tables None end = Unit {0}
ApartSo (Off e) tables taker end = (taker ≡ None) × (end ≡ e)

abbrev pub IsApart : Stand → Housed → Option EndTold → Type 0
IsApart old h end = ApartSo old h.tables h.taker end

-- and put together after it
abbrev pub JoinedSo : List TableContent → Option Taker → Option EndTold → Stand → Type 0
JoinedSo tables (Some t) end new = Went tables t.token t.budget new
JoinedSo tables None end new = Off end ≡ new

abbrev pub IsJoined : Housed → Option EndTold → Stand → Type 0
IsJoined h end new = JoinedSo h.tables h.taker end new

-- there are so many tables at least
abbrev pub HasTables : ℕ → Housed → Type 0
HasTables n h = n ≤ length h.tables

-- while tables of a thread are behind locks those from this number on are at home
pub record IsOut (n : ℕ) (was now : Housed) : Type 0 where
  pub rest : RestOf was.tables was.limits n now.tables
  pub limits : now.limits ≡ was.limits
  pub taker : now.taker ≡ was.taker
  pub there : n ≤ length was.tables

-- a thread at the end of a phase
pub record CameHome (was now : Housed) : Type 0 where
  pub fits : IsFit now
  pub grow : AllGrow was.tables now.tables
  pub taker : now.taker ≡ was.taker
