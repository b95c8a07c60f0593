mod TextOrder
