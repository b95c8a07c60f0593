-- An entry and its two parts make the same run.
use Rattle.std.proofs.Common.{List, [], ◌∷◌, ◌++◌, refl}
use Rattle.pearl_rules.specs.declared.entry.Entry.{Entry}
use Rattle.pearl_run_laws.specs.GoingOn.{over}
use Rattle.pearl_run_laws.specs.Laws.{EntriesPart}
use Rattle.pearl_run_laws.proofs.Coming.{parted_at}
use Rattle.pearl_run_laws.proofs.Alike.{InParts, AreAlike, after_alike, stand_alike}

pub entries_part : {S : Type 0} → EntriesPart S
entries_part engine m before after one parts is n =
    let two : List Entry = before ++ (parts ++ after) in
    let alike : AreAlike [] (over m (before ++ one ∷ after)) (over m two) =
    record { entries = two; is = refl; alike = InParts (parted_at before after one parts is) } in
    stand_alike [] _ _ (after_alike [] engine (over m (before ++ one ∷ after)) (over m two) alike n)
