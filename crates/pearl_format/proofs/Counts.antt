-- How many values items take.
use Rattle.std.proofs.Common.{◌≡◌, ℕ, ◌+◌, List, [], ◌∷◌, length, refl, arith}
use Rattle.pearl_value.specs.declared.kind.Kind.{Kind}
use Rattle.pearl_format.specs.declared.item.ItemCode.{ItemCode}
use Rattle.pearl_format.specs.declared.item.ItemCode.TheVariants.{A, B1, B2, B3, B4, F, T, D, X, Skip}
use Rattle.pearl_format.specs.declared.item.Item.{Item}
use Rattle.pearl_format.specs.Items.{data_here, data_count, SuitsItem, Suits}

-- items take as many values as they count
pub suits-length : (items : List Item) (kinds : List Kind) → Suits items kinds → length kinds ≡ data_count items
suits-length [] [] suits = refl
suits-length [] (kind ∷ kinds) suits = absurd suits
suits-length (item ∷ items) kinds suits = by item.code item.width kinds (λ kinds. suits-length items kinds) suits
  where
    by : (code : ItemCode) (width : ℕ) (kinds : List Kind) → ((kinds : List Kind) → Suits items kinds → length kinds ≡ data_count items) →
        SuitsItem code width kinds (λ rest. Suits items rest) → length kinds ≡ data_here code + data_count items
    by X width kinds others suits = let rest : length kinds ≡ data_count items = others kinds suits in omega arith
    by Skip width kinds others suits = let rest : length kinds ≡ data_count items = others kinds suits in omega arith
    by A width [] others suits = absurd suits
    by A width (kind ∷ kinds) others suits = let rest : length kinds ≡ data_count items = others kinds suits.1 in omega arith
    by B1 width [] others suits = absurd suits
    by B1 width (kind ∷ kinds) others suits = let rest : length kinds ≡ data_count items = others kinds suits.1 in omega arith
    by B2 width [] others suits = absurd suits
    by B2 width (kind ∷ kinds) others suits = let rest : length kinds ≡ data_count items = others kinds suits.1 in omega arith
    by B3 width [] others suits = absurd suits
    by B3 width (kind ∷ kinds) others suits = let rest : length kinds ≡ data_count items = others kinds suits.1 in omega arith
    by B4 width [] others suits = absurd suits
    by B4 width (kind ∷ kinds) others suits = let rest : length kinds ≡ data_count items = others kinds suits.1 in omega arith
    by F width [] others suits = absurd suits
    by F width (kind ∷ kinds) others suits = let rest : length kinds ≡ data_count items = others kinds suits.1 in omega arith
    by T width [] others suits = absurd suits
    by T width (kind ∷ kinds) others suits = let rest : length kinds ≡ data_count items = others kinds suits.1 in omega arith
    by D width [] others suits = absurd suits
    by D width (kind ∷ kinds) others suits = let rest : length kinds ≡ data_count items = others kinds suits.1 in omega arith
