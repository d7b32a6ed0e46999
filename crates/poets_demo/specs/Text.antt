-- The text of the demonstration.
use Rattle.std.specs.Prelude.{ℕ, ◌*◌, List, [], ◌∷◌, ◌++◌, codes}
use Rattle.std.specs.Fmt.{decimal}
use Rattle.std.specs.List.{flat_map, join_by, range_with_len}

-- the numbers from 1 to n
abbrev pub numbers_to : (n : ℕ) → List ℕ
numbers_to n = range_with_len 1 n

-- a text and LF (10)
abbrev pub line : List ℕ → List ℕ
line text = text ++ 10 ∷ []

-- the contract of a sale: the shop hands over the oil, and within 30 days the buyer pays three
-- dollars for each unit of it
abbrev pub sale_template : List ℕ
sale_template =
    codes "template sale(s: Agent, b: Agent, n: Int) = "
    ++ codes "transmit(x, y, r, t | x = s and y = b and r = res(n, Oil)). "
    ++ codes "transmit(u, v, p, w | u = b and v = s and p = res(3 * n, USD) and w <= t + 30). "
    ++ codes "Success;;"

-- the report of the dollars that were handed over
abbrev pub paid_report : List ℕ
paid_report =
    codes "report paid(): Int = fold m = 0 with (x, y, r, t) in "
    ++ codes "if kind(r) = USD then m + amount(r) else m end;;"

-- what the session declares
abbrev pub book : List ℕ
book = line (codes "agents shop, buyer;;") ++ line (codes "kinds Oil, USD;;") ++ line sale_template ++ line paid_report

-- the name of a clerk's sale: `c1_2`
abbrev pub sale_name : (clerk sale : ℕ) → List ℕ
sale_name clerk sale = codes "c" ++ decimal clerk ++ codes "_" ++ decimal sale

-- a sale of so much oil as its number: `register c1_2 = sale(shop, buyer, 2);;`
abbrev pub registration : (clerk sale : ℕ) → List ℕ
registration clerk sale =
    line (codes "register " ++ sale_name clerk sale ++ codes " = sale(shop, buyer, " ++ decimal sale ++ codes ");;")

-- the shop hands over the oil: `transmit c1_2 shop buyer 2 Oil @2006-05-03;;`
abbrev pub delivery : (clerk sale : ℕ) → List ℕ
delivery clerk sale =
    line
    (codes "transmit " ++ sale_name clerk sale ++ codes " shop buyer " ++ decimal sale ++ codes " Oil @2006-05-03;;")

-- the buyer pays dollars on a day: `transmit c1_2 buyer shop 6 USD @2006-06-02;;`
abbrev pub payment : (clerk sale : ℕ) → (dollars : ℕ) → (day : List ℕ) → List ℕ
payment clerk sale dollars day =
    line
    (codes "transmit " ++ sale_name clerk sale ++ codes " buyer shop " ++ decimal dollars ++ codes " USD @" ++ day
    ++ codes ";;")

-- `end c1_2;;`
abbrev pub ending : (clerk sale : ℕ) → List ℕ
ending clerk sale = line (codes "end " ++ sale_name clerk sale ++ codes ";;")

-- the lines of a sale: the buyer pays a third of the price, and then the price
abbrev pub sale_lines : (clerk sale : ℕ) → List ℕ
sale_lines clerk sale =
    registration clerk sale
    ++ delivery clerk sale
    ++ payment clerk sale sale (codes "2006-05-04")
    ++ payment clerk sale (3 * sale) (codes "2006-06-02")
    ++ ending clerk sale

-- the names of a clerk's sales: `c1_1, c1_2`
abbrev pub sale_names : (clerk sales : ℕ) → List ℕ
sale_names clerk sales = join_by (sale_name clerk) (codes ", ") (numbers_to sales)

-- `portfolio paid() over c1_1, c1_2;;`
abbrev pub portfolio : (clerk sales : ℕ) → List ℕ
portfolio clerk sales = line (codes "portfolio paid() over " ++ sale_names clerk sales ++ codes ";;")

-- the commands of a clerk: so many sales, and a portfolio of them
abbrev pub section : (clerk sales : ℕ) → List ℕ
section clerk sales = line (codes "clerk;;") ++ flat_map (sale_lines clerk) (numbers_to sales) ++ portfolio clerk sales

-- the demonstration: eight clerks make so many sales each
abbrev pub demo_text : (sales : ℕ) → List ℕ
demo_text sales = book ++ flat_map (λ clerk. section clerk sales) (numbers_to 8)
