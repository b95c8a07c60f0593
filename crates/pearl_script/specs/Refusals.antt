-- The lines that tell why nothing more was done.
use Rattle.std.specs.Prelude.{ℕ, List, ◌++◌, codes}
use Rattle.std.specs.Fmt.{decimal}
use Rattle.pearl_script.specs.declared.refusal.Refusal.{Refusal}
use Rattle.pearl_script.specs.declared.refusal.Refusal.TheVariants.{Usage, Syntax, Source, Object, Unsound, Snapshot, State, Journal, Read, Memory, TooLong, Name}

abbrev pub refusal_line : Refusal → List ℕ
refusal_line Usage = codes "error usage\n"
refusal_line (Syntax place) = codes "error syntax " ++ decimal place ++ codes "\n"
refusal_line (Source place rule) = codes "error source " ++ decimal place ++ codes " S" ++ decimal rule ++ codes "\n"
refusal_line (Object place) = codes "error object " ++ decimal place ++ codes "\n"
refusal_line (Unsound routine instruction rule) =
    codes "error object routine " ++ decimal routine ++ codes " instruction " ++ decimal instruction ++ codes " V" ++ decimal rule ++ codes "\n"
refusal_line (Snapshot place) = codes "error snapshot " ++ decimal place ++ codes "\n"
refusal_line (State rule) = codes "error snapshot state N" ++ decimal rule ++ codes "\n"
refusal_line (Journal line code) = codes "error journal " ++ decimal line ++ codes " " ++ decimal code ++ codes "\n"
refusal_line Read = codes "error read\n"
refusal_line Memory = codes "error memory\n"
refusal_line (TooLong count) = codes "error too long " ++ decimal count ++ codes "\n"
refusal_line (Name number) = codes "error name " ++ decimal number ++ codes "\n"
