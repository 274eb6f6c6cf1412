-- The decimals of document 01 and of clause 5.3.2, as exact fractions.
-- Assumes nothing.
use Rattle.basis.specs.Fraction.{Ratio, tenths, hundredths, thousandths}

abbrev pub 0·001 : Ratio
0·001 = thousandths 1

abbrev pub 0·175 : Ratio
0·175 = thousandths 175

abbrev pub 0·213 : Ratio
0·213 = thousandths 213

abbrev pub 0·30 : Ratio
0·30 = hundredths 30

abbrev pub 0·7 : Ratio
0·7 = tenths 7

abbrev pub 0·85 : Ratio
0·85 = hundredths 85

abbrev pub 1·0 : Ratio
1·0 = tenths 10

abbrev pub 1·146 : Ratio
1·146 = thousandths 1146

abbrev pub 1·155 : Ratio
1·155 = thousandths 1155

abbrev pub 1·19 : Ratio
1·19 = hundredths 119

abbrev pub 1·2 : Ratio
1·2 = tenths 12

abbrev pub 1·3 : Ratio
1·3 = tenths 13

abbrev pub 1·4 : Ratio
1·4 = tenths 14

abbrev pub 1·615 : Ratio
1·615 = thousandths 1615

abbrev pub 2·15 : Ratio
2·15 = hundredths 215

abbrev pub 2·30 : Ratio
2·30 = hundredths 230
