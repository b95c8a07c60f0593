-- No rule of the validator fails at instructions that take the values of a schedule or of a format.
use Rattle.std.proofs.Common.{◌≡◌, ℕ, zero, suc, ◌+◌, ◌<◌, Bool, true, false, List, [], ◌∷◌, ◌++◌, Some, slice_get, length, replicate, map, refl, sym, ap, ◌∙◌, subst, arith, le-leb, lt-ltb}
use Rattle.std.specs.Prelude.{◌&&◌, ◌||◌, not, nat_lt, nat_le, is_some, option_map, take, drop, reverse}
use Rattle.std.specs.List.{list_all}
use Rattle.std.proofs.lemmas.List.{drop_all, length-reverse, length-map, length-replicate, length-take, length-drop}
use mathlib.Core.List.{reverse_aux}
use Rattle.pearl_value.specs.declared.kind.Kind.{Kind}
use Rattle.pearl_value.specs.declared.kind.Kind.TheVariants as kind_
use Rattle.pearl_value.specs.declared.kind.CellKind.{CellKind}
use Rattle.pearl_value.specs.declared.kind.CellKind.TheVariants.{Plain}
use Rattle.pearl_format.specs.declared.item.ItemCode.{ItemCode}
use Rattle.pearl_format.specs.declared.item.ItemCode.TheVariants.{A, B1, B2, B3, B4, F, T, D, X, Skip}
use Rattle.pearl_format.specs.declared.item.Item.{Item}
use Rattle.pearl_format.specs.Items.{data_here, data_count, text_width, TakesKind, SuitsItem, Suits, FitsFormat}
use Rattle.pearl_format.proofs.Offered.{suits-length}
use Rattle.pearl_instructions.specs.declared.schedule.OnceForm.{OnceForm}
use Rattle.pearl_instructions.specs.declared.instr.Activation.{Activation}
use Rattle.pearl_instructions.specs.declared.instr.Continuation.{Continuation}
use Rattle.pearl_instructions.specs.declared.instr.Reading.{Reading}
use Rattle.pearl_instructions.specs.declared.instr.Instr.{Instr}
use Rattle.pearl_instructions.specs.declared.instr.Instr.TheVariants as instr
use Rattle.pearl_instructions.specs.declared.object.Code.{Code}
use Rattle.pearl_instructions.specs.declared.object.Parts.{Parts as Object}
use Rattle.pearl_instructions.specs.Objects.{items_at}
use Rattle.pearl_instructions.specs.Offers.{as_start, start_or_free, start_kinds, repeat_kinds, takes_kind, item_suits, items_suit}
use Rattle.pearl_instructions.specs.Opcodes.{Anything, Exactly, scheduled, priority_asked}
use Rattle.pearl_instructions.specs.Operands.{Shape, is_reference, same_cell, v2, values_asked}
use Rattle.pearl_instructions.specs.Named.{has_cells, takes_texts, gives_texts, names_interrupt, has_read_cells, read_cells}
use Rattle.pearl_instructions.specs.Valid.{plain_kinds, suits_format, values_suit, cells_suit}
use Rattle.pearl_gen_expr.specs.Shapes.{Keeps, handed}
use Rattle.pearl_gen_expr.proofs.Offered.{and_is, or_is, same_cell_self, handed_is, handed_back, handed_length}
use Rattle.pearl_gen_expr.proofs.Offered.{anything_asked}
use Rattle.pearl_faithful.proofs.Quiet.{IsWhole, bare_keeps}
use Rattle.pearl_faithful.proofs.Steps.{HasFor}

-- FORMATS

kind_taken : (code : ItemCode) (width : ℕ) (kind : Kind) → TakesKind code width kind → takes_kind code kind ≡ true
kind_taken A width (kind_.Chars len) takes = refl
kind_taken B1 width (kind_.Bits len) takes = refl
kind_taken B2 width (kind_.Bits len) takes = refl
kind_taken B3 width (kind_.Bits len) takes = refl
kind_taken B4 width (kind_.Bits len) takes = refl
kind_taken F width (kind_.Fixed len) takes = refl
kind_taken T width kind_.Clock takes = refl
kind_taken D width kind_.Span takes = refl
kind_taken code width kind takes = absurd takes

-- items that suit kinds pass the validator's test
suits_items : (items : List Item) (kinds : List Kind) → Suits items kinds → items_suit items kinds ≡ true
suits_items [] [] suits = refl
suits_items [] (kind ∷ kinds) suits = absurd suits
suits_items (item ∷ items) kinds suits = by item.code item.width kinds (λ kinds. suits_items items kinds) suits
  where
    by : (code : ItemCode) (width : ℕ) (kinds : List Kind) → ((kinds : List Kind) → Suits items kinds → items_suit items kinds ≡ true) →
        SuitsItem code width kinds (λ rest. Suits items rest) → item_suits code kinds && items_suit items (drop (data_here code) kinds) ≡ true
    by X width kinds others suits = others kinds suits
    by Skip width kinds others suits = others kinds suits
    by A width [] others suits = absurd suits
    by A width (kind ∷ kinds) others suits = and_is (takes_kind A kind) (items_suit items kinds) (kind_taken A width kind suits.0) (others kinds suits.1)
    by B1 width [] others suits = absurd suits
    by B1 width (kind ∷ kinds) others suits = and_is (takes_kind B1 kind) (items_suit items kinds) (kind_taken B1 width kind suits.0) (others kinds suits.1)
    by B2 width [] others suits = absurd suits
    by B2 width (kind ∷ kinds) others suits = and_is (takes_kind B2 kind) (items_suit items kinds) (kind_taken B2 width kind suits.0) (others kinds suits.1)
    by B3 width [] others suits = absurd suits
    by B3 width (kind ∷ kinds) others suits = and_is (takes_kind B3 kind) (items_suit items kinds) (kind_taken B3 width kind suits.0) (others kinds suits.1)
    by B4 width [] others suits = absurd suits
    by B4 width (kind ∷ kinds) others suits = and_is (takes_kind B4 kind) (items_suit items kinds) (kind_taken B4 width kind suits.0) (others kinds suits.1)
    by F width [] others suits = absurd suits
    by F width (kind ∷ kinds) others suits = and_is (takes_kind F kind) (items_suit items kinds) (kind_taken F width kind suits.0) (others kinds suits.1)
    by T width [] others suits = absurd suits
    by T width (kind ∷ kinds) others suits = and_is (takes_kind T kind) (items_suit items kinds) (kind_taken T width kind suits.0) (others kinds suits.1)
    by D width [] others suits = absurd suits
    by D width (kind ∷ kinds) others suits = and_is (takes_kind D kind) (items_suit items kinds) (kind_taken D width kind suits.0) (others kinds suits.1)

all_plain : (kinds : List Kind) → plain_kinds (map Plain kinds) ≡ Some kinds
all_plain [] = refl
all_plain (kind ∷ kinds) = ap (λ found. option_map (λ kinds. kind ∷ kinds) found) (all_plain kinds)

none_refers : (kinds : List Kind) → list_all (λ k. not (is_reference k)) (map Plain kinds) ≡ true
none_refers [] = refl
none_refers (kind ∷ kinds) = none_refers kinds

fits_format : (items : List Item) (kinds : List Kind) → FitsFormat items kinds → suits_format items (Some kinds) ≡ true
fits_format items kinds fits =
    and_is (items_suit items kinds && nat_le (length kinds) 64) (nat_le (text_width items kinds) 1024)
    (and_is (items_suit items kinds) (nat_le (length kinds) 64) (suits_items items kinds fits.suits) (le-leb (length kinds) 64 fits.few)) (le-leb (text_width items kinds) 1024 fits.short)

-- SCHEDULES

map_onto : {X Y : Type 0} (f : X → Y) (xs ys : List X) → map f (reverse_aux xs ys) ≡ reverse_aux (map f xs) (map f ys)
map_onto f [] ys = refl
map_onto f (x ∷ xs) ys = map_onto f xs (x ∷ ys)

map_reversed : {X Y : Type 0} (f : X → Y) (xs : List X) → map f (reverse xs) ≡ reverse (map f xs)
map_reversed f xs = map_onto f xs []

exactly : (kinds : List Kind) (s : Shape) → v2 (map Exactly kinds) (map Plain kinds ++ s) ≡ true
exactly [] s = refl
exactly (kind ∷ kinds) s = and_is (same_cell (Plain kind) (Plain kind)) (v2 (map Exactly kinds) (map Plain kinds ++ s)) (same_cell_self (Plain kind)) (exactly kinds s)

scheduled_on : (kinds : List Kind) (s : Shape) → v2 (scheduled kinds) (handed (map Plain kinds) s) ≡ true
scheduled_on kinds s =
    ap (λ asked. v2 asked (handed (map Plain kinds) s)) (sym (map_reversed Exactly kinds))
    ∙ (ap (λ shape. v2 (map Exactly (reverse kinds)) shape) (handed_is (map Plain kinds) s ∙ ap (λ front. front ++ s) (sym (map_reversed Plain kinds)))
    ∙ exactly (reverse kinds) s)

scheduled_long : (kinds : List Kind) → length (scheduled kinds) ≡ length kinds
scheduled_long kinds = length-reverse (map Exactly kinds) ∙ length-map kinds Exactly

handed_long : (kinds : List Kind) → length (handed (map Plain kinds) []) ≡ length kinds
handed_long kinds = let long = handed_length (map Plain kinds) [] in let same = length-map kinds Plain in omega (arith, long, same)

nothing_left : (kinds : List Kind) → drop (length (scheduled kinds)) (handed (map Plain kinds) []) ≡ []
nothing_left kinds =
    let one = scheduled_long kinds in let two = handed_long kinds in
    drop_all (length (scheduled kinds)) (handed (map Plain kinds) []) (omega (arith, one, two))

pub handed_both : (one two s : List CellKind) → handed (one ++ two) s ≡ handed two (handed one s)
handed_both [] two s = refl
handed_both (k ∷ one) two s = handed_both one two (k ∷ s)

-- a priority lies on a shape, where one is given
abbrev pub urgent_shape : Bool → (len : ℕ) → Shape → Shape
urgent_shape false len s = s
urgent_shape true len s = Plain (kind_.Fixed len) ∷ s

abbrev pub activation_kinds : Activation → List Kind
activation_kinds a = start_kinds a.start ++ repeat_kinds a.repeat

urgent_asked : (given : Bool) (len : ℕ) (kinds : List Kind) → v2 (priority_asked given ++ scheduled kinds) (urgent_shape given len (handed (map Plain kinds) [])) ≡ true
urgent_asked false len kinds = scheduled_on kinds []
urgent_asked true len kinds = scheduled_on kinds []

urgent_left : (given : Bool) (len : ℕ) (kinds : List Kind) → drop (length (priority_asked given ++ scheduled kinds)) (urgent_shape given len (handed (map Plain kinds) [])) ≡ []
urgent_left false len kinds = nothing_left kinds
urgent_left true len kinds =
    let one = scheduled_long kinds in let two = handed_long kinds in
    drop_all (length (priority_asked true ++ scheduled kinds)) (Plain (kind_.Fixed len) ∷ handed (map Plain kinds) []) (omega (arith, one, two))

module _ (o : Object) (r : ℕ) (code : Code) (whole : IsWhole o code) (place : ℕ) where
  abbrev Here : Instr → Type 0
  Here here = slice_get code.instructions place ≡ Some here

  abbrev Passes : (before after : Shape) → Type 0
  Passes before after = Keeps o r code place (place + 1) before after

  abbrev Room : Shape → Type 0
  Room s = HasFor o r code whole place s

  deep : (s : Shape) → Room s → nat_le (length code.cells + length s) code.depth ≡ true
  deep s room = le-leb (length code.cells + length s) code.depth room

  pub put_keeps : (device format : ℕ) (items : List Item) (kinds : List Kind) → Here (instr.Put device format) → takes_texts (slice_get o.devices device) ≡ true →
      slice_get o.formats format ≡ Some items → FitsFormat items kinds → Room (handed (map Plain kinds) []) → Passes (handed (map Plain kinds) []) []
  put_keeps device format items kinds is texts there fits room =
      let s = handed (map Plain kinds) [] in
      let count : length kinds ≡ data_count items = suits-length items kinds fits.suits in
      let long = handed_long kinds in
      let copies = length-replicate (data_count items) Anything in
      let many : length (map Plain kinds) ≡ data_count items = length-map kinds Plain ∙ count in
      bare_keeps o r code whole place (instr.Put device format) s is
      (record {
        one = and_is (takes_texts (slice_get o.devices device)) (is_some (items_at o format)) texts (ap is_some there);
        two = ap (λ found. v2 (values_asked found) s) there ∙ anything_asked (data_count items) s (omega (arith, long, count));
        three = refl;
        four = refl;
        five = refl;
        eight = refl;
        ten = refl;
        eleven = deep s room;
        twelve = ap (λ found. values_suit found s) there ∙ (ap (λ kinds. suits_format items (plain_kinds kinds)) (handed_back (map Plain kinds) [] (data_count items) many)
            ∙ (ap (suits_format items) (all_plain kinds) ∙ fits_format items kinds fits));
      })
      (ap (λ found. drop (length (values_asked found)) s) there ∙ drop_all (length (replicate (data_count items) Anything)) s (omega (arith, long, count, copies)))

  cells_for : (c n : ℕ) → length (take n (drop c code.cells)) ≡ n → nat_le n 0 || has_cells code c n ≡ true
  cells_for c zero long = refl
  cells_for c (suc n) long =
      let taken = length-take (suc n) (drop c code.cells) in let dropped = length-drop c code.cells in
      or_is (nat_le (suc n) 0) (has_cells code c (suc n))
      (and_is (nat_lt 0 (suc n)) (nat_le (c + suc n) (length code.cells)) (lt-ltb 0 (suc n) (omega arith)) (le-leb (c + suc n) (length code.cells) (omega (arith, long, taken, dropped))))

  pub get_keeps : (g : Reading) (items : List Item) (kinds : List Kind) → Here (instr.Get g) → gives_texts (slice_get o.devices g.device) ≡ true →
      slice_get o.formats g.format ≡ Some items → FitsFormat items kinds → take (length kinds) (drop g.first code.cells) ≡ map Plain kinds → Room [] → Passes [] []
  get_keeps g items kinds is texts there fits are room =
      let c = g.first in
      let count : length kinds ≡ data_count items = suits-length items kinds fits.suits in
      let cells : take (data_count items) (drop c code.cells) ≡ map Plain kinds = subst (λ n. take n (drop c code.cells) ≡ map Plain kinds) count are in
      let long : length (take (data_count items) (drop c code.cells)) ≡ data_count items = ap length cells ∙ (length-map kinds Plain ∙ count) in
      bare_keeps o r code whole place (instr.Get g) [] is
      (record {
        one = and_is (gives_texts (slice_get o.devices g.device)) _ texts (ap (λ found. has_read_cells code c found) there ∙ cells_for c (data_count items) long);
        two = refl;
        three = refl;
        four = refl;
        five = ap (λ found. list_all (λ k. not (is_reference k)) (read_cells code c found)) there ∙ (ap (list_all (λ k. not (is_reference k))) cells ∙ none_refers kinds);
        eight = refl;
        ten = refl;
        eleven = deep [] room;
        twelve = ap (λ found. cells_suit found (read_cells code c found)) there ∙ (ap (λ cells. suits_format items (plain_kinds cells)) cells
            ∙ (ap (suits_format items) (all_plain kinds) ∙ fits_format items kinds fits));
      }) refl

  pub activate_keeps : (value : Activation) (len : ℕ) → Here (instr.Activate value) → value.task < length o.tasks → names_interrupt o value.start ≡ true →
      Room (urgent_shape value.priority len (handed (map Plain (activation_kinds value)) [])) → Passes (urgent_shape value.priority len (handed (map Plain (activation_kinds value)) [])) []
  activate_keeps value len is task names room =
      let s = urgent_shape value.priority len (handed (map Plain (activation_kinds value)) []) in
      bare_keeps o r code whole place (instr.Activate value) s is
      (record {
        one = and_is (nat_lt value.task (length o.tasks)) (names_interrupt o value.start) (lt-ltb value.task (length o.tasks) task) names;
        two = urgent_asked value.priority len (activation_kinds value);
        three = refl;
        four = refl;
        five = refl;
        eight = refl;
        ten = refl;
        eleven = deep s room;
        twelve = refl;
      })
      (urgent_left value.priority len (activation_kinds value))

  pub continue_keeps : (value : Continuation) → Here (instr.Continue value) → value.task < length o.tasks → names_interrupt o (start_or_free value.once) ≡ true →
      Room (handed (map Plain (start_kinds (start_or_free value.once))) []) → Passes (handed (map Plain (start_kinds (start_or_free value.once))) []) []
  continue_keeps value is task names room =
      let s = handed (map Plain (start_kinds (start_or_free value.once))) [] in
      bare_keeps o r code whole place (instr.Continue value) s is
      (record {
        one = and_is (nat_lt value.task (length o.tasks)) (names_interrupt o (start_or_free value.once)) (lt-ltb value.task (length o.tasks) task) names;
        two = scheduled_on (start_kinds (start_or_free value.once)) [];
        three = refl;
        four = refl;
        five = refl;
        eight = refl;
        ten = refl;
        eleven = deep s room;
        twelve = refl;
      })
      (nothing_left (start_kinds (start_or_free value.once)))

  pub resume_keeps : (form : OnceForm) → Here (instr.Resume form) → names_interrupt o (as_start form) ≡ true → Room (handed (map Plain (start_kinds (as_start form))) []) →
      Passes (handed (map Plain (start_kinds (as_start form))) []) []
  resume_keeps form is names room =
      let s = handed (map Plain (start_kinds (as_start form))) [] in
      bare_keeps o r code whole place (instr.Resume form) s is
      (record {
        one = names;
        two = scheduled_on (start_kinds (as_start form)) [];
        three = refl;
        four = refl;
        five = refl;
        eight = refl;
        ten = refl;
        eleven = deep s room;
        twelve = refl;
      })
      (nothing_left (start_kinds (as_start form)))
