-- Symbols are read back as they are written.
use Rattle.std.proofs.Common.{◌<◌, ℕ, zero, suc, refl, arith}
use Rattle.pearl_tree.specs.Symbols.{symbol_texts, symbol_text, symbol_count}
use Rattle.pearl_tree.specs.declared.token.What.TheVariants as what
use Rattle.pearl_lex.specs.Front.{front}
use Rattle.pearl_print.specs.Spelled.{spelled}
use Rattle.pearl_print.specs.Reading.{IsReadBack}

-- this holds of so many numbers from the first one on
abbrev HoldsOf : (ℕ → Type 0) → ℕ → Type 0
HoldsOf P zero = Unit {0}
HoldsOf P (suc n) = P 0 × HoldsOf (λ k. P (suc k)) n

holds_at : (P : ℕ → Type 0) (n : ℕ) → HoldsOf P n → (k : ℕ) → k < n → P k
holds_at P zero all k inside = absurd (omega arith)
holds_at P (suc n) all zero inside = all.0
holds_at P (suc n) all (suc k) inside = holds_at (λ k. P (suc k)) n all.1 k (omega arith)

all_read : HoldsOf (λ code. IsReadBack (what.Symbol code)) symbol_count
unfolding spelled symbol_text symbol_texts front
all_read = (
  record { begins = λ rest. refl; no_space = λ rest. refl },
  (
    record { begins = λ rest. refl; no_space = λ rest. refl },
    (
      record { begins = λ rest. refl; no_space = λ rest. refl },
      (
        record { begins = λ rest. refl; no_space = λ rest. refl },
        (
          record { begins = λ rest. refl; no_space = λ rest. refl },
          (
            record { begins = λ rest. refl; no_space = λ rest. refl },
            (
              record { begins = λ rest. refl; no_space = λ rest. refl },
              (
                record { begins = λ rest. refl; no_space = λ rest. refl },
                (
                  record { begins = λ rest. refl; no_space = λ rest. refl },
                  (
                    record { begins = λ rest. refl; no_space = λ rest. refl },
                    (
                      record { begins = λ rest. refl; no_space = λ rest. refl },
                      (
                        record { begins = λ rest. refl; no_space = λ rest. refl },
                        (
                          record { begins = λ rest. refl; no_space = λ rest. refl },
                          (
                            record { begins = λ rest. refl; no_space = λ rest. refl },
                            (
                              record { begins = λ rest. refl; no_space = λ rest. refl },
                              (
                                record { begins = λ rest. refl; no_space = λ rest. refl },
                                (
                                  record { begins = λ rest. refl; no_space = λ rest. refl },
                                  (
                                    record { begins = λ rest. refl; no_space = λ rest. refl },
                                    (
                                      record { begins = λ rest. refl; no_space = λ rest. refl },
                                      (
                                        record { begins = λ rest. refl; no_space = λ rest. refl },
                                        (
                                          record { begins = λ rest. refl; no_space = λ rest. refl },
                                          (
                                            record { begins = λ rest. refl; no_space = λ rest. refl },
                                            (
                                              record { begins = λ rest. refl; no_space = λ rest. refl },
                                              tt,
                                            ),
                                          ),
                                        ),
                                      ),
                                    ),
                                  ),
                                ),
                              ),
                            ),
                          ),
                        ),
                      ),
                    ),
                  ),
                ),
              ),
            ),
          ),
        ),
      ),
    ),
  ),
)

-- a symbol is read back
pub symbol_reads : (code : ℕ) → code < symbol_count → IsReadBack (what.Symbol code)
symbol_reads code inside = holds_at (λ code. IsReadBack (what.Symbol code)) symbol_count all_read code inside
