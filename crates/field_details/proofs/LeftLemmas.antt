-- What is left of a list from a place on.

-- ---- whether one of them passes
