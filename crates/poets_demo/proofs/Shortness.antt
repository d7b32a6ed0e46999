-- The text of a demonstration has no more bytes than a session may have.
use Rattle.std.proofs.Common.{ℕ, zero, suc, ◌+◌, ◌*◌, ◌<◌, ◌≤◌, List, ◌++◌, length, arith, length-append}
use Rattle.std.specs.Prelude.{codes}
use Rattle.std.specs.Fmt.{decimal}
use Rattle.std.specs.List.{flat_map, range_with_len}
use Rattle.std.proofs.lemmas.Fmt.{length-decimal-le}
use Rattle.std.proofs.Math.Nat.{suc-mul}
use Rattle.poets_value.specs.Limits.{longest_text, most_sales}
use Rattle.poets_demo.specs.Text.{book, delivery, demo_text, ending, line, numbers_to, payment, portfolio, registration, sale_lines, sale_name, sale_names, section}

-- two pieces
two_short : (a b : List ℕ) (x y : ℕ) → length a ≤ x → length b ≤ y → length (a ++ b) ≤ x + y
two_short a b x y p q = omega (arith, length-append a b)

-- five pieces
five_short : (a b c d e : List ℕ) → length a ≤ 200 → length b ≤ 200 → length c ≤ 200 → length d ≤ 200 → length e ≤ 200 → length (a ++ b ++ c ++ d ++ e) ≤ 1000
five_short a b c d e p q r s t = simp length-append (omega arith)

-- so many pieces, each of which has so many bytes at most
pieces_short : (f : ℕ → List ℕ) (b a n : ℕ) → ((k : ℕ) → k < a + n → length (f k) ≤ b) → length (flat_map f (range_with_len a n)) ≤ n * b
pieces_short f b a zero short = omega arith
pieces_short f b a (suc n) short =
    let first = short a (omega arith) in
    let rest = pieces_short f b (a + 1) n (λ k l. short k (omega arith)) in
    omega (arith, length-append (f a) (flat_map f (range_with_len (a + 1) n)), suc-mul n b)

number_short : (n : ℕ) → n ≤ 3000 → length (decimal n) ≤ 4
number_short n le = length-decimal-le 4 n (omega arith) (omega arith) (omega arith)

name_short : (clerk sale : ℕ) → clerk ≤ 8 → sale ≤ most_sales → length (sale_name clerk sale) ≤ 10
name_short clerk sale c s =
    let a = number_short clerk (omega arith) in
    let b = number_short sale (omega arith) in
    simp length-append (omega arith)

-- a line of two pieces
line_short : (text back : List ℕ) (n : ℕ) → length text ≤ n → length back ≤ 30 → length (line (text ++ back)) ≤ n + 31
line_short text back n t b = simp length-append (omega arith)

-- the front of a line, up to its number
front_short : (front middle : List ℕ) (clerk sale n : ℕ) → clerk ≤ 8 → sale ≤ most_sales → n ≤ 3000 → length front ≤ 30 → length middle ≤ 30 →
    length (front ++ sale_name clerk sale ++ middle ++ decimal n) ≤ 74
front_short front middle clerk sale n c s le f m =
    two_short (front ++ sale_name clerk sale ++ middle) (decimal n) 70 4
    (two_short (front ++ sale_name clerk sale) middle 40 30 (two_short front (sale_name clerk sale) 30 10 f (name_short clerk sale c s)) m) (number_short n le)

payment_short : (clerk sale dollars : ℕ) (day : List ℕ) → clerk ≤ 8 → sale ≤ most_sales → dollars ≤ 3000 → length day ≤ 10 → length (payment clerk sale dollars day) ≤ 200
payment_short clerk sale dollars day c s d l =
    let front = codes "transmit " ++ sale_name clerk sale ++ codes " buyer shop " ++ decimal dollars in
    let short = front_short (codes "transmit ") (codes " buyer shop ") clerk sale dollars c s d (omega arith) (omega arith) in
    line_short (front ++ codes " USD @" ++ day) (codes ";;") 169 (two_short (front ++ codes " USD @") day 159 10 (two_short front (codes " USD @") 74 85 short (omega arith)) l) (omega arith)

sale_short : (clerk sale : ℕ) → clerk ≤ 8 → sale ≤ most_sales → length (sale_lines clerk sale) ≤ 1000
sale_short clerk sale c s =
    let register = line_short (codes "register " ++ sale_name clerk sale ++ codes " = sale(shop, buyer, " ++ decimal sale) (codes ");;") 74
    (front_short (codes "register ") (codes " = sale(shop, buyer, ") clerk sale sale c s (omega arith) (omega arith) (omega arith)) (omega arith) in
    let deliver = line_short (codes "transmit " ++ sale_name clerk sale ++ codes " shop buyer " ++ decimal sale) (codes " Oil @2006-05-03;;") 74
    (front_short (codes "transmit ") (codes " shop buyer ") clerk sale sale c s (omega arith) (omega arith) (omega arith)) (omega arith) in
    let little = payment_short clerk sale sale (codes "2006-05-04") c s (omega arith) (omega arith) in
    let whole = payment_short clerk sale (3 * sale) (codes "2006-06-02") c s (omega arith) (omega arith) in
    let end = line_short (codes "end " ++ sale_name clerk sale) (codes ";;") 40 (two_short (codes "end ") (sale_name clerk sale) 30 10 (omega arith) (name_short clerk sale c s)) (omega arith) in
    five_short (registration clerk sale) (delivery clerk sale) (payment clerk sale sale (codes "2006-05-04")) (payment clerk sale (3 * sale) (codes "2006-06-02")) (ending clerk sale)
    (omega arith) (omega arith) little whole (omega arith)

names_short : (clerk sales : ℕ) → clerk ≤ 8 → sales ≤ most_sales → length (sale_names clerk sales) ≤ 13_000
names_short clerk zero c s = omega arith
names_short clerk (suc n) c s =
    let next : ℕ → List ℕ = λ k. codes ", " ++ sale_name clerk k in
    let others = pieces_short next 12 2 n (λ k l. two_short (codes ", ") (sale_name clerk k) 2 10 (omega arith) (name_short clerk k c (omega arith))) in
    two_short (sale_name clerk 1) (flat_map next (range_with_len 2 n)) 10 12_990 (name_short clerk 1 c (omega arith)) (omega arith)

section_short : (clerk sales : ℕ) → clerk ≤ 8 → sales ≤ most_sales → length (section clerk sales) ≤ 1_100_000
section_short clerk sales c s =
    let lines = pieces_short (sale_lines clerk) 1000 1 sales (λ k l. sale_short clerk k c (omega arith)) in
    let names = two_short (codes "portfolio paid() over ") (sale_names clerk sales) 30 13_000 (omega arith) (names_short clerk sales c s) in
    let last = line_short (codes "portfolio paid() over " ++ sale_names clerk sales) (codes ";;") 13_030 names (omega arith) in
    let all = two_short (line (codes "clerk;;")) (flat_map (sale_lines clerk) (numbers_to sales)) 10 1_000_000 (omega arith) (omega arith) in
    two_short (line (codes "clerk;;") ++ flat_map (sale_lines clerk) (numbers_to sales)) (portfolio clerk sales) 1_000_010 99_990 all (omega arith)

-- eight clerks with the most sales each
pub demo_short : (sales : ℕ) → sales ≤ most_sales → length (demo_text sales) ≤ longest_text
demo_short sales s =
    let sections = pieces_short (λ clerk. section clerk sales) 1_100_000 1 8 (λ k l. section_short k sales (omega arith) s) in
    two_short book (flat_map (λ clerk. section clerk sales) (numbers_to 8)) 1000 16_776_216 (omega arith) (omega arith)
