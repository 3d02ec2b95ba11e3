-- The texts of refusals.
use Rattle.std.specs.Prelude.{ℕ, List, ◌++◌, codes, decimal}
use Rattle.src_ast.specs.declared.fault.Quantity.{Quantity}
use Rattle.src_ast.specs.declared.fault.Quantity.TheVariants.{NameBytes, Depth, Lexemes, Arrays, Length}
use Rattle.src_ast.specs.declared.fault.Quantity.TheVariants.{CellSum, Procs, Params, Vars, Statements}
use Rattle.src_ast.specs.declared.fault.Quantity.TheVariants.{PortNumber}
use Rattle.src_ast.specs.declared.fault.Refusal.{Refusal}
use Rattle.src_ast.specs.declared.fault.RefusalKind.{RefusalKind}
use Rattle.src_ast.specs.declared.fault.RefusalKind.TheVariants.{Byte, Wide, Syntax, Unknown, Twice, Kind}
use Rattle.src_ast.specs.declared.fault.RefusalKind.TheVariants.{Count, Main, Limit, TooLong, Input}
use Rattle.asm_text.specs.declared.fault.AsmKind as asm
use Rattle.asm_text.specs.declared.fault.AsmKind.TheVariants as Asm
use Rattle.annot_check.specs.declared.fault.Bad.{Bad}
use Rattle.annot_check.specs.declared.fault.Bad.TheVariants as bad
use Rattle.asm_read.specs.declared.assembly.AsmRefusal.{AsmRefusal}
use Rattle.asm_read.specs.declared.assembly.AsmRefusal.TheVariants as refusal

abbrev pub unread_text : List ℕ
unread_text = codes "fault read\n"

abbrev pub long_text : List ℕ
long_text = codes "refused long\n"

abbrev pub quantity_word : Quantity → List ℕ
quantity_word NameBytes = codes "name"
quantity_word Depth = codes "depth"
quantity_word Lexemes = codes "lexemes"
quantity_word Arrays = codes "arrays"
quantity_word Length = codes "length"
quantity_word CellSum = codes "cells"
quantity_word Procs = codes "procs"
quantity_word Params = codes "params"
quantity_word Vars = codes "vars"
quantity_word Statements = codes "statements"
quantity_word PortNumber = codes "port"

abbrev pub kind_word : RefusalKind → List ℕ
kind_word Byte = codes "byte"
kind_word Wide = codes "wide"
kind_word Syntax = codes "syntax"
kind_word Unknown = codes "unknown"
kind_word Twice = codes "twice"
kind_word Kind = codes "kind"
kind_word Count = codes "count"
kind_word Main = codes "main"
kind_word (Limit q) = codes "limit " ++ quantity_word q
kind_word TooLong = codes "long"
kind_word Input = codes "input"

-- a refusal at its place
abbrev pub refusal_text : Refusal → List ℕ
refusal_text r =
    codes "refused " ++ decimal r.place.line ++ codes ":" ++ decimal r.place.column
    ++ codes " " ++ kind_word r.kind ++ codes "\n"

-- what is printed for a faulty line of an assembly
abbrev pub asm_word : asm.AsmKind → List ℕ
asm_word Asm.Line = codes "line"
asm_word Asm.Number = codes "number"
asm_word Asm.Limit = codes "limit"
asm_word Asm.Version = codes "version"
asm_word Asm.Name = codes "name"

-- a word and numbers that break the rule that it names
abbrev pub broken_text : List ℕ → ℕ → ℕ → List ℕ
broken_text rule m n =
    codes "refused " ++ rule ++ codes " " ++ decimal m ++ codes " " ++ decimal n ++ codes "\n"

abbrev pub bad_text : Bad → List ℕ
bad_text (bad.Port i p) = broken_text (codes "port") i p
bad_text (bad.Pending c d) = broken_text (codes "pending") c d
bad_text (bad.Link j k) = broken_text (codes "link") j k
bad_text (bad.Ripple j k) = broken_text (codes "ripple") j k
bad_text (bad.Shape b) = codes "refused shape " ++ decimal b ++ codes "\n"

-- an assembly that is refused
abbrev pub asm_refusal_text : AsmRefusal → List ℕ
asm_refusal_text (refusal.Text kind line) =
    codes "refused " ++ decimal line ++ codes " " ++ asm_word kind ++ codes "\n"
asm_refusal_text (refusal.Unsound b) = bad_text b
asm_refusal_text (refusal.Input place) =
    refusal_text (record { kind = Input; place = place })
