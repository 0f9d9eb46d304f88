-- A Pong's payload, byte by byte.
use Rattle.std.proofs.Common.{◌≡◌, ℕ, List, [], ◌∷◌, ◌++◌, length, get_or, refl, arith}

pub pong_in_bytes : (ip p f k : List ℕ) (p0 p1 f0 f1 f2 f3 k0 k1 k2 k3 : ℕ) → length ip ≡ 4 → p ≡ p0 ∷ p1 ∷ [] → f ≡ f0 ∷ f1 ∷ f2 ∷ f3 ∷ [] → k ≡ k0 ∷ k1 ∷ k2 ∷ k3 ∷ []
    → get_or p 0 0 ∷ get_or p 1 0 ∷ get_or ip 0 0 ∷ get_or ip 1 0 ∷ get_or ip 2 0 ∷ get_or ip 3 0 ∷ get_or f 0 0 ∷ get_or f 1 0 ∷ get_or f 2 0 ∷ get_or f 3 0
    ∷ get_or k 0 0 ∷ get_or k 1 0 ∷ get_or k 2 0 ∷ get_or k 3 0 ∷ []
    ≡ (((p0 ∷ p1 ∷ []) ++ ip) ++ (f0 ∷ f1 ∷ f2 ∷ f3 ∷ [])) ++ (k0 ∷ k1 ∷ k2 ∷ k3 ∷ [])
pong_in_bytes [] p f k p0 p1 f0 f1 f2 f3 k0 k1 k2 k3 e p_is f_is k_is = absurd (omega arith)
pong_in_bytes (a ∷ []) p f k p0 p1 f0 f1 f2 f3 k0 k1 k2 k3 e p_is f_is k_is = absurd (omega arith)
pong_in_bytes (a ∷ b ∷ []) p f k p0 p1 f0 f1 f2 f3 k0 k1 k2 k3 e p_is f_is k_is = absurd (omega arith)
pong_in_bytes (a ∷ b ∷ c ∷ []) p f k p0 p1 f0 f1 f2 f3 k0 k1 k2 k3 e p_is f_is k_is = absurd (omega arith)
pong_in_bytes (a ∷ b ∷ c ∷ d ∷ []) p f k p0 p1 f0 f1 f2 f3 k0 k1 k2 k3 e p_is f_is k_is = rw (p_is, f_is, k_is) refl
pong_in_bytes (a ∷ b ∷ c ∷ d ∷ x ∷ xs) p f k p0 p1 f0 f1 f2 f3 k0 k1 k2 k3 e p_is f_is k_is = absurd (omega arith)
